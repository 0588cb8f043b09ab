-- `lists::copy` meets its contract. The invariant: the first i numbers are copied. Assumes nothing.
use mathlib.Core.List.{◌++◌}
use mathlib.Core.Path.{◌≡◌}
use lib.ListN.{length, take, drop}
use Rattle.lists.proofs.copy.Given as goal

abbrev pub invariant-loop-i : goal.invariant-loop-i
invariant-loop-i l = (l.dst ≡ take l.i l.src ++ drop l.i l.initial.dst) × (length l.dst ≡ length l.initial.dst)
