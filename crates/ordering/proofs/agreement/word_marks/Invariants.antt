-- `ordering::agreement::word_marks` meets its contract. The loop's invariant: the first c marks stand. Assumes nothing.
use mathlib.Core.Path.{◌≡◌}
use Prim.Native.Nat.{ℕ, ◌<◌}
use lib.ListN.{get_or}
use Rattle.ordering.specs.WorkAgree.{mark_at}
use Rattle.ordering.proofs.agreement.word_marks.Given as goal

abbrev pub invariant-loop-c : goal.invariant-loop-c
invariant-loop-c l = (j : ℕ) → j < l.c → get_or l.marks j 0 ≡ mark_at l.n l.list j
