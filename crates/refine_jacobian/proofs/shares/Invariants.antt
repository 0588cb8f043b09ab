-- `refine_jacobian::shares` meets its contract. The loop's invariant: the first i shares are written.
use mathlib.Core.Path.{◌≡◌}
use mathlib.Core.List.{◌++◌}
use Prim.Native.Nat.{◌+◌, ◌-◌, ◌≤◌}
use lib.ListN.{length, get_or, drop}
use Rattle.lists.specs.Tables.{tab}
use Rattle.refine_jacobian.specs.Entries.{share_of}
use Rattle.refine_jacobian.proofs.shares.Given as goal

abbrev pub invariant-loop-i : goal.invariant-loop-i
invariant-loop-i l = l.to ≡ tab l.i (λ j. share_of l.r (get_or l.weights j 0)) ++ drop l.i l.initial.to
