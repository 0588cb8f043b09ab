-- `grid_sides::Sides::length_sq` meets its contract. The invariant: x is the sum of the squares of the axes below i. Assumes nothing.
use Rattle.std.proofs.Common.{◌≡◌, ◌-◌, ◌≤◌}
use Rattle.grid_sides.specs.Lengths.{squares_to}
use Rattle.grid_sides.proofs.Sides.length_sq.Given as goal

abbrev pub invariant-loop-i : goal.invariant-loop-i
invariant-loop-i l = (l.x ≡ squares_to l.self l.step (l.i - 1)) × (l.i - 1 ≤ l.d - 1)
