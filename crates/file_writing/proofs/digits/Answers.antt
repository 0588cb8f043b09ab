-- `file_writing::digits` meets its contract. The invariant: the digits from 10 to the power k down to the one before j are written. Assumes nothing.
use Rattle.file_writing.proofs.Down.{down-more, down-last}
use Rattle.text.proofs.Decimals.{power_pos}
use native.Mathlib.Omega.{arith}
use Rattle.file_writing.proofs.digits.Goals as goal

pub nonzero_div-digit : goal.nonzero_div-digit
nonzero_div-digit c = power_pos _ _ c.power.ensures

pub loop-j-preserved : goal.loop-j-preserved
loop-j-preserved c = down-more _ _ _ _ c.loop-j-test.true c.power.ensures c.loop-j.invariant c.byte-next.ensures

pub returns : goal.returns
returns c = down-last _ _ _ (omega arith) c.loop-j.invariant c.byte.ensures
