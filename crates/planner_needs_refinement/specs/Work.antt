-- What the children that there is room for are told as. Assumes nothing.
use Rattle.std.specs.Prelude.{◌≡◌, ℕ, suc, ◌+◌, ◌*◌, ◌/◌, ◌≤◌}
use Rattle.refusal.specs.Limits.{most_cells, most_corners, row_most}
use Rattle.refine.specs.Space.{children_room}
use Rattle.needs.specs.Needs.{worked}

-- c is how many of them the need counts, and few, as their corners are and the numbers of these
pub record Told (d R n c : ℕ) : Type 0 where
  pub is : c ≡ children_room d (worked d n / suc d) R
  pub few : c ≤ most_cells
  pub wide : c * (d + 1) ≤ most_corners
  pub square : c * (d + 1) * (d + 1) ≤ most_corners * row_most
