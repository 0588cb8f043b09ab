-- `text::Text::digits` meets its contract. The invariant: the digits from 10 to the power k down to 10 to the power j are added. Assumes nothing.
use Prim.Native.Nat.{◌-◌}
use Rattle.text.proofs.Decimals.{Down}
use Rattle.text.proofs.Text.digits.Given as goal

abbrev pub invariant-loop-j : goal.invariant-loop-j
invariant-loop-j l = Down l.k l.n (l.j - 1) l.initial.t l.t
