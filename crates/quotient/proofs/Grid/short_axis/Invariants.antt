-- `quotient::Grid::short_axis` meets its contract. The invariant: no axis below `i` passes the test. Assumes nothing.
use mathlib.Core.Path.{◌≡◌}
use mathlib.Core.Bool.{false}
use Prim.Native.Nat.{ℕ, ◌<◌}
use Rattle.quotient.specs.Shape.{falls_short}
use Rattle.quotient.proofs.Grid.short_axis.Given as goal

abbrev pub invariant-loop-i : goal.invariant-loop-i
invariant-loop-i l = (k : ℕ) → k < l.i → falls_short l.self k ≡ false
