-- `grid_sides::Sides::bad_side` meets its contract. The invariant: no side below `i` is refused. Assumes nothing.
use Rattle.std.proofs.Common.{◌≡◌, ℕ, ◌<◌, false}
use Rattle.grid_sides.specs.Counts.{unfit}
use Rattle.grid_sides.proofs.Sides.bad_side.Given as goal

abbrev pub invariant-loop-i : goal.invariant-loop-i
invariant-loop-i l = (k : ℕ) → k < l.i → unfit l.self k ≡ false
