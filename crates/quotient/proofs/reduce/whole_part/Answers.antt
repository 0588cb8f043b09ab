-- `quotient::reduce::whole_part` meets its contract. Assumes nothing.
use mathlib.Core.Path.{sym}
use native.Mathlib.Nat.{div-eq_of_lt}
use Rattle.quotient.proofs.reduce.whole_part.Goals as goal

pub returns-then-x-p : goal.returns-then-x-p
returns-then-x-p c = sym (div-eq_of_lt c.if-x-p.true)
