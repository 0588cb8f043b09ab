-- None of the first k words names a vertex twice. Assumes nothing.
use mathlib.Core.Bool.{false}
use Rattle.lists.specs.Rows.{row}
use Rattle.lists.specs.Words.{has_repeat}
use mathlib.Core.Path.{◌≡◌}
use Prim.Native.Nat.{ℕ, ◌<◌}
use Rattle.complex.proofs.first_repeat.Given as goal

abbrev pub invariant-loop-k : goal.invariant-loop-k
invariant-loop-k l = (j : ℕ) → j < l.k → has_repeat (row l.ws l.n j) ≡ false
