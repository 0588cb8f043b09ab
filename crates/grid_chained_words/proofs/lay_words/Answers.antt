-- `grid_chained_words::lay_words` meets its contract: where the classes are few enough the grid is taken by the first mode too, so its words may be written. Assumes nothing.
use native.Mathlib.Omega.{arith}
use Rattle.grid_chained.proofs.Counts.{few-taken}
use Rattle.grid_chained_words.proofs.lay_words.Goals as goal

pub class_words-requires : goal.class_words-requires
class_words-requires c = record { taken = few-taken c.args.grid c.requires.taken _ _ c.numbers-m.ensures.classing (omega (arith, c.if-m-gt-MOST_VERTICES.false)); each = c.numbers-m.ensures.long; long = c.requires.long }
