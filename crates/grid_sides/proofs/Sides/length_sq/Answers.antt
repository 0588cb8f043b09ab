-- `grid_sides::Sides::length_sq` meets its contract. The invariant: x is the sum of the squares of the axes below i. Assumes nothing.
use Rattle.std.proofs.Common.{◌≡◌, ◌-◌, refl, arith}
use Rattle.grid_sides.proofs.Runs.{squares-more, squares-first}
use Rattle.grid_sides.proofs.Sides.length_sq.Goals as goal

pub loop-i-init : goal.loop-i-init
loop-i-init c = (squares-first _ _ _ _ _ c.along.ensures c.side.ensures c.square-x.ensures, omega arith)

pub loop-i-preserved : goal.loop-i-preserved
loop-i-preserved c = (squares-more _ _ _ _ _ _ _ _ c.loop-i.auto.i c.loop-i.invariant.0 c.along-in-loop-i.ensures c.side-in-loop-i.ensures c.square-x-in-loop-i.ensures refl, omega arith)

pub returns : goal.returns
returns c = let e : c.loop-i.i - 1 ≡ c.args.d - 1 = omega arith in rw e at c.loop-i.invariant.0
