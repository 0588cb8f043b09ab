-- `grid_chained::listing::work` meets its contract: 6, then 12, then the numbers are copied. Assumes nothing.
use mathlib.Core.Path.{sym}
use native.Mathlib.Omega.{arith}
use lib.Seq.{length-take-le}
use Rattle.grid_chained.proofs.Entry.{fits, part, worked-many, worked-short, worked-all}
use Rattle.grid_chained.proofs.listing.work.Goals as goal

pub slice_bounds-numbers-end : goal.slice_bounds-numbers-end
slice_bounds-numbers-end c = fits c.args.grid _ c.requires _ c.points-n.ensures

pub slice_bounds-numbers-end-2 : goal.slice_bounds-numbers-end-2
slice_bounds-numbers-end-2 c = sym (length-take-le _ _ (fits c.args.grid _ c.requires _ c.points-n.ensures))

pub numbers-m-requires : goal.numbers-m-requires
numbers-m-requires c = part c.args.grid _ c.requires _ c.points-n.ensures

pub returns-then-m-gt-MOST_VERTICES : goal.returns-then-m-gt-MOST_VERTICES
returns-then-m-gt-MOST_VERTICES c = worked-many c.args.grid _ c.requires _ c.points-n.ensures _ _ c.numbers-m.ensures _ c.if-m-gt-MOST_VERTICES.true

pub returns-then-to-n : goal.returns-then-to-n
returns-then-to-n c = worked-short c.args.grid _ c.requires _ c.points-n.ensures _ _ c.numbers-m.ensures _ (omega (arith, c.if-m-gt-MOST_VERTICES.false)) c.if-to-n.true

pub returns : goal.returns
returns c = worked-all c.args.grid _ c.requires _ c.points-n.ensures _ _ c.numbers-m.ensures _ (omega (arith, c.if-m-gt-MOST_VERTICES.false)) (omega (arith, c.if-to-n.false)) _ c.copy.ensures
