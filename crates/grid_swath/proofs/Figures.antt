-- Figures. Assumes nothing.
use mathlib.Core.Bool.{false}
use mathlib.Core.List.{[], ◌∷◌}
use mathlib.Core.Path.{◌≡◌, refl}
use Prim.Native.Nat.{ℕ}
use lib.IntN.{pos}
use lib.Ieee.{Float, fin}
use Rattle.quotient.specs.declared.Glue.{Glue}
use Rattle.quotient.specs.declared.Glue.TheVariants.{Open, Twisted}
use Rattle.quotient.specs.declared.Axis.{Axis}
use Rattle.quotient.specs.declared.Grid.{Grid}
use Rattle.quotient.specs.Fold.{product}
use Rattle.quotient.specs.Shape.{axis_of}
use Rattle.quotient.specs.Reduce.{rest_at, reflected_by, number_to}
use Rattle.grid_swath.specs.Swath.{swath_of}

abbrev axis : ℕ → Glue → Axis
axis n g = record { count = n; glue = g }

abbrev one : Float
one = fin false 1 (pos 0)

-- 3 x 1, axis 0 twisted over 1, axis 1 open
abbrev band : Grid
band = record { d = 2; first = axis 3 (Twisted 2); second = axis 1 Open; third = axis 0 Open; sides = record { first = one; second = one; third = one } }

-- points inside and outside of the grid, in any order
pub band-swath : swath_of band (0 ∷ 7 ∷ 8 ∷ 4 ∷ 4294967295 ∷ []) ≡ 0 ∷ 0 ∷ 4294967295 ∷ 3 ∷ 4294967295 ∷ []
unfolding axis_of product rest_at reflected_by number_to
band-swath = refl

pub no-points : swath_of band [] ≡ []
no-points = refl
