-- `text::top` meets its contract. The invariant: the digits from the one below 10 to the power k down, without a 0 before others, are all of them. Assumes nothing.
use mathlib.Core.Path.{◌≡◌}
use Prim.Native.Nat.{◌-◌}
use Rattle.text.specs.Decimal.{decimal_down, decimal}
use Rattle.text.proofs.top.Given as goal

abbrev pub invariant-loop-k : goal.invariant-loop-k
invariant-loop-k l = decimal_down (l.k - 1) l.n ≡ decimal l.n
