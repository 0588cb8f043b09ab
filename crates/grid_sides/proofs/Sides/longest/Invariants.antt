-- `grid_sides::Sides::longest` meets its contract. The invariant: x is the longest of the sides below i. Assumes nothing.
use Rattle.std.proofs.Common.{◌≡◌, ◌-◌, ◌≤◌}
use Rattle.grid_sides.specs.Counts.{longest_to}
use Rattle.grid_sides.proofs.Sides.longest.Given as goal

abbrev pub invariant-loop-i : goal.invariant-loop-i
invariant-loop-i l = (l.x ≡ longest_to l.self (l.i - 1)) × (l.i - 1 ≤ l.d - 1)
