-- `refine_children::jacobians` meets its contract. The loop's invariant: the Jacobians of the first i children are written.
use mathlib.Core.Path.{◌≡◌}
use mathlib.Core.List.{◌++◌}
use Prim.Native.Nat.{◌+◌, ◌*◌, ◌-◌, ◌≤◌}
use lib.ListN.{length, get_or, drop}
use Rattle.refusal.specs.Limits.{square_most}
use Rattle.refine_children.specs.WorkFamily.{joined, whole_at, float_at}
use Rattle.refine_children.proofs.jacobians.Given as goal

abbrev pub invariant-loop-i : goal.invariant-loop-i
invariant-loop-i l =
    (l.wholes ≡ joined l.i (λ k. whole_at l.d l.size l.pattern l.words l.sorted l.along l.cells (get_or l.firsts k 0)) ++ drop (l.i * square_most) l.initial.wholes)
    × (l.floats ≡ joined l.i (λ k. float_at l.d l.r l.size l.pattern l.words l.sorted l.along l.cells (get_or l.firsts k 0)) ++ drop (l.i * square_most) l.initial.floats)
