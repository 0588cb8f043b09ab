-- `quotient::check::capped` meets its contract: with these bounds the product fits. Assumes nothing.
use native.Mathlib.Nat.{mul-le-mul_left}
use native.Mathlib.Omega.{arith}
use Rattle.quotient.proofs.check.capped.Goals as goal

pub overflow_mul-p : goal.overflow_mul-p
overflow_mul-p c = let h = c.requires in omega (arith, mul-le-mul_left c.args.a h.2)
