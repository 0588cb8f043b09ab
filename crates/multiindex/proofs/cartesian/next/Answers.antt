-- One digit more, by the laws of the digits raised. Assumes nothing.
use native.Mathlib.Omega.{arith}
use Rattle.multiindex.proofs.Digits.{carried-length, carried-up, carried-over}
use Rattle.multiindex.proofs.cartesian.next.Goals as goal

pub returns-then-x-n : goal.returns-then-x-n
returns-then-x-n c = carried-up _ _ _ _ c.loop-digit.invariant (omega (arith, carried-length _ _ _ _ c.loop-digit.invariant)) c.if-x-n.true

pub loop-digit-preserved : goal.loop-digit-preserved
loop-digit-preserved c = carried-over _ _ _ _ c.loop-digit.invariant (omega (arith, carried-length _ _ _ _ c.loop-digit.invariant)) c.if-x-n.false
