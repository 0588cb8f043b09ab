-- `grid_words::stride` meets its contract. The invariant: s is the product of the points below k. Assumes nothing.
use mathlib.Core.Path.{◌≡◌, refl}
use native.Mathlib.Omega.{arith}
use Rattle.quotient.specs.Fold.{product}
use Rattle.grid_words.proofs.Corners.{stride-turn}
use Rattle.grid_words.proofs.stride.Goals as goal

pub loop-k-init : goal.loop-k-init
unfolding product
loop-k-init c = refl

pub returns : goal.returns
returns c = let e : c.loop-k.k ≡ c.args.a = omega arith in rw e at c.loop-k.invariant

pub overflow_mul-s : goal.overflow_mul-s
overflow_mul-s c =
    let t = stride-turn c.args.grid c.requires.0 _ _ _ (omega (arith, c.requires.1)) c.loop-k.invariant c.points_on-s.ensures in
    omega (arith, t.1)

pub loop-k-preserved : goal.loop-k-preserved
loop-k-preserved c =
    let t = stride-turn c.args.grid c.requires.0 _ _ _ (omega (arith, c.requires.1)) c.loop-k.invariant c.points_on-s.ensures in
    t.0
