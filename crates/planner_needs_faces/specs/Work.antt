-- What the room for faces is told as. Assumes nothing.
use Rattle.std.specs.Prelude.{◌≡◌, ℕ, ◌≤◌}
use Rattle.refusal.specs.declared.Room.{Room}
use Rattle.refusal.specs.Limits.{many_corners}
use Rattle.complex_boundary.specs.Need.{face_need}
use Rattle.needs.specs.Needs.{worked}

-- r is the room that the calls need, and small
pub record FaceRoom (d n : ℕ) (r : Room) : Type 0 where
  pub is : r ≡ face_need d (worked d n)
  pub few : r.rows ≤ many_corners
