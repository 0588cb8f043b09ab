-- `grid_chained::engines::numbers` meets its contract: the least points, numbered. Assumes nothing.
use Rattle.grid_chained.proofs.Numbering.{labelled-leading, labelled-classes}
use Rattle.grid_chained.proofs.engines.numbers.Goals as goal

pub number-requires : goal.number-requires
number-requires c = labelled-leading c.args.grid _ c.label.ensures

pub returns : goal.returns
returns c = labelled-classes c.args.grid _ _ _ c.label.ensures c.number.ensures
