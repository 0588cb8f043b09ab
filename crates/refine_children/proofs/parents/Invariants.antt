-- `refine_children::parents` meets its contract. The loop's invariant: the first i parents are written.
use mathlib.Core.Path.{◌≡◌}
use mathlib.Core.List.{◌++◌}
use Prim.Native.Nat.{◌+◌, ◌-◌, ◌/◌, ◌≤◌}
use lib.ListN.{length, get_or, drop}
use Rattle.lists.specs.Tables.{tab}
use Rattle.refine_children.proofs.parents.Given as goal

abbrev pub invariant-loop-i : goal.invariant-loop-i
invariant-loop-i l = l.to ≡ tab l.i (λ k. get_or l.firsts k 0 / l.size) ++ drop l.i l.initial.to
