-- Which grids and latitudes are taken: refusals 18 and 19 (document 02, K1). Assumes nothing.
use Rattle.refusal.specs.Says.{fine}
use Rattle.std.specs.Prelude.{◌≡◌, Bool, true, not, ◌&&◌, ℕ, ◌+◌, ◌-◌, ◌<◌, ◌≤◌, eqb, ℤ, pos, negsuc}
use Rattle.std.specs.Int.Signed.{lt_z}
use Rattle.quotient.specs.declared.Grid.{Grid}
use Rattle.quotient.specs.Shape.{closed_at, mask_at, check_of}

-- two dimensions, axis 0 periodic (a twist that reflects no axis is one), axis 1 open
abbrev pub band_grid : Grid → Bool
band_grid g = eqb g.d 2 && (closed_at g 0 && (eqb (mask_at g 0) 0 && not (closed_at g 1)))

-- south is below north, and neither is beyond 90 degrees; negsuc 89 is -90
abbrev pub latitudes_fit : ℤ → ℤ → Bool
latitudes_fit south north = not (lt_z south (negsuc 89)) && (not (lt_z (pos 90) north) && lt_z south north)

-- a latitude in whole degrees from the South Pole, 0 to 180; negsuc n is -(n + 1)
abbrev pub from_pole : ℤ → ℕ
from_pole (pos n) = 90 + n
from_pole (negsuc n) = 89 - n

-- a grid that is taken, of this kind, and two latitudes from the South Pole
pub record Mapped (g : Grid) (low high : ℕ) : Type 0 where
  pub taken : check_of g ≡ fine
  pub band : band_grid g ≡ true
  pub between : low < high
  pub most : high ≤ 180
