-- `orientation_by::take_over` meets its contract. The loop's invariant: the first c signs are +1 or -1, and their marks stand. Assumes nothing.
use Prim.Native.Nat.{ℕ, ◌<◌}
use Rattle.orientation_by.proofs.Marks.{Marked}
use Rattle.orientation_by.proofs.take_over.Given as goal

abbrev pub invariant-loop-c : goal.invariant-loop-c
invariant-loop-c l = (j : ℕ) → j < l.c → Marked l.signs l.marks j
