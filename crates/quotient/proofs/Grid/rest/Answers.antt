-- `quotient::Grid::rest` meets its contract. The invariant: x is what is left after the coordinates below j. Assumes nothing.
use mathlib.Core.Path.{◌≡◌, refl}
use native.Mathlib.Omega.{arith}
use Rattle.quotient.specs.Reduce.{rest_at}
use Rattle.quotient.proofs.Points.{rest_more}
use Rattle.quotient.proofs.Grid.rest.Goals as goal

pub loop-j-init : goal.loop-j-init
unfolding rest_at
loop-j-init c = refl

pub returns : goal.returns
returns c = let e : c.loop-j.j ≡ c.args.k = omega arith in rw e at c.loop-j.invariant

pub loop-j-preserved : goal.loop-j-preserved
loop-j-preserved c = rest_more _ _ _ _ _ _ c.loop-j.invariant c.points_on-x.ensures refl
