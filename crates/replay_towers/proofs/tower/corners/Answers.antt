-- `replay_towers::tower::corners` meets its contract: at most 4 times 4,096. Assumes nothing.
use mathlib.Core.Path.{refl}
use native.Mathlib.Omega.{arith}
use native.Mathlib.Nat.{mul-le-mul_right}
use Rattle.replay_towers.proofs.tower.corners.Goals as goal

pub overflow_mul-result : goal.overflow_mul-result
overflow_mul-result c = omega (arith, mul-le-mul_right c.args.width c.requires.0)

pub returns : goal.returns
returns c = (refl, omega (arith, mul-le-mul_right c.args.width c.requires.0))
