-- `grid_chained::check::cells` meets its contract. The invariant: p is the number of cells that the axes below k make. Assumes nothing.
use mathlib.Core.Path.{refl, ap}
use native.Mathlib.Omega.{arith}
use Rattle.quotient.specs.declared.Axis.{Axis}
use Rattle.quotient.specs.Fold.{product}
use Rattle.grid_chained.proofs.Taken.{cells-turn}
use Rattle.grid_chained.proofs.check.cells.Goals as goal

pub loop-k-init : goal.loop-k-init
unfolding product
loop-k-init c = refl

pub overflow_mul-q : goal.overflow_mul-q
overflow_mul-q c =
    let t = cells-turn c.args.grid c.requires _ _ _ c.loop-k-test.true c.loop-k.invariant (ap (λ (a : Axis). a.count) c.axis-a.ensures) in
    omega (arith, t.2)

pub overflow_mul-p : goal.overflow_mul-p
overflow_mul-p c =
    let t = cells-turn c.args.grid c.requires _ _ _ c.loop-k-test.true c.loop-k.invariant (ap (λ (a : Axis). a.count) c.axis-a.ensures) in
    omega (arith, t.1)

pub loop-k-preserved : goal.loop-k-preserved
loop-k-preserved c = (cells-turn c.args.grid c.requires _ _ _ c.loop-k-test.true c.loop-k.invariant (ap (λ (a : Axis). a.count) c.axis-a.ensures)).0
