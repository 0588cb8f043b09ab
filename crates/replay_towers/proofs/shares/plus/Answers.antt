-- `replay_towers::shares::plus` meets its contract: the product is at most 64 times 4,096. Assumes nothing.
use native.Mathlib.Omega.{arith}
use mathlib.Core.Path.{refl}
use Prim.Native.Nat.{◌≤◌}
use native.Mathlib.Nat.{mul-le-mul_right}
use Rattle.replay_towers.proofs.shares.plus.Goals as goal

pub returns-then-have-gt4096 : goal.returns-then-have-gt4096
returns-then-have-gt4096 c = λ a b s. absurd (omega arith)

pub returns-then-weight-gt64 : goal.returns-then-weight-gt64
returns-then-weight-gt64 c = λ a b s. absurd (omega arith)

pub returns-then-share-gt4096 : goal.returns-then-share-gt4096
returns-then-share-gt4096 c = λ a b s. absurd (omega arith)

pub overflow_mul-result : goal.overflow_mul-result
overflow_mul-result c =
    let h : c.args.weight ≤ 64 = omega arith in
    omega (arith, mul-le-mul_right c.args.share h)

pub overflow_add-result : goal.overflow_add-result
overflow_add-result c =
    let h : c.args.weight ≤ 64 = omega arith in
    omega (arith, mul-le-mul_right c.args.share h)

pub returns : goal.returns
returns c = λ a b s. refl
