-- `grid_swath::swath` meets its contract. Its three ways out: a refused grid, a list that is too short, or all points reduced. Assumes nothing.
use mathlib.Core.Path.{sym}
use lib.Seq.{length-take-le}
use Rattle.grid_swath.proofs.swath.Goals as goal

pub slice_bounds-reduce_all-end-2 : goal.slice_bounds-reduce_all-end-2
slice_bounds-reduce_all-end-2 c = sym (length-take-le _ _ c.if-glued-n.false)
