-- `grid_words::boxes` meets its contract. The invariant: p is the product of the counts below k. Assumes nothing.
use mathlib.Core.Path.{◌≡◌, refl, ap}
use native.Mathlib.Omega.{arith}
use Rattle.quotient.specs.declared.Axis.{Axis}
use Rattle.quotient.specs.Fold.{product}
use Rattle.grid_words.proofs.Corners.{boxes-turn}
use Rattle.grid_words.proofs.boxes.Goals as goal

pub loop-k-init : goal.loop-k-init
unfolding product
loop-k-init c = refl

pub overflow_mul-p : goal.overflow_mul-p
overflow_mul-p c =
    let t = boxes-turn c.args.grid c.requires _ _ _ c.loop-k-test.true c.loop-k.invariant (ap (λ (a : Axis). a.count) c.axis-a.ensures) in
    omega (arith, t.1)

pub loop-k-preserved : goal.loop-k-preserved
loop-k-preserved c =
    let t = boxes-turn c.args.grid c.requires _ _ _ c.loop-k-test.true c.loop-k.invariant (ap (λ (a : Axis). a.count) c.axis-a.ensures) in
    t.0

pub returns : goal.returns
returns c = let e : c.loop-k.k ≡ c.args.grid.d = omega arith in rw e at c.loop-k.invariant
