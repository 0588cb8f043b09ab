-- `quotient::Grid::bad_reflection` meets its contract. The invariant: no axis below `i` passes the test. Assumes nothing.
use mathlib.Core.Path.{◌≡◌}
use mathlib.Core.Bool.{false}
use Prim.Native.Nat.{ℕ, ◌<◌}
use Rattle.quotient.specs.Shape.{reflects_badly}
use Rattle.quotient.proofs.Grid.bad_reflection.Given as goal

abbrev pub invariant-loop-i : goal.invariant-loop-i
invariant-loop-i l = (k : ℕ) → k < l.i → reflects_badly l.self k ≡ false
