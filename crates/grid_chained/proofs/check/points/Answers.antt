-- `grid_chained::check::points` meets its contract. The invariant: p is the product of the points on the axes below k. Assumes nothing.
use mathlib.Core.Path.{refl}
use native.Mathlib.Omega.{arith}
use Rattle.quotient.specs.Fold.{product}
use Rattle.grid_chained.proofs.Taken.{points-turn}
use Rattle.grid_chained.proofs.check.points.Goals as goal

pub loop-k-init : goal.loop-k-init
unfolding product
loop-k-init c = refl

pub overflow_mul-p : goal.overflow_mul-p
overflow_mul-p c =
    let t = points-turn c.args.grid c.requires _ _ _ c.loop-k-test.true c.loop-k.invariant c.points_on-p.ensures in
    omega (arith, t.1)

pub loop-k-preserved : goal.loop-k-preserved
loop-k-preserved c = (points-turn c.args.grid c.requires _ _ _ c.loop-k-test.true c.loop-k.invariant c.points_on-p.ensures).0
