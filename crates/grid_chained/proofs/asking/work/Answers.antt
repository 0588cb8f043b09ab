-- `grid_chained::asking::work` meets its contract. Assumes nothing.
use mathlib.Core.Path.{sym}
use lib.Seq.{length-take-le}
use Rattle.grid_chained.proofs.Entry.{fits, part}
use Rattle.grid_chained.proofs.asking.work.Goals as goal

pub slice_bounds-numbers-end : goal.slice_bounds-numbers-end
slice_bounds-numbers-end c = fits c.args.grid _ c.requires _ c.points-n.ensures

pub slice_bounds-numbers-end-2 : goal.slice_bounds-numbers-end-2
slice_bounds-numbers-end-2 c = sym (length-take-le _ _ (fits c.args.grid _ c.requires _ c.points-n.ensures))

pub numbers-m-requires : goal.numbers-m-requires
numbers-m-requires c = part c.args.grid _ c.requires _ c.points-n.ensures
