-- Figures of honest gluing, computed from the definitions that the contracts cite. Assumes nothing.
use Rattle.refusal.specs.declared.Refusal.TheVariants.{TooManyVertices}
use Rattle.refusal.specs.Says.{fine}
use Rattle.std.specs.Prelude.{Err}
use mathlib.Core.Path.{◌≡◌, refl}
use mathlib.Core.List.{List, [], ◌∷◌, map}
use Prim.Native.Nat.{ℕ}
use Rattle.grid_sides.specs.declared.Sides.{Sides}
use Rattle.quotient.specs.declared.Glue.{Glue}
use Rattle.quotient.specs.declared.Glue.TheVariants.{Open, Twisted}
use Rattle.quotient.specs.declared.Axis.{Axis}
use Rattle.quotient.specs.declared.Grid.{Grid}
use Rattle.lists.specs.Words.{found_at, first_where}
use Rattle.quotient.specs.Fold.{product, some, count}
use Rattle.quotient.specs.Shape.{axis_of, bad_set, check_of}
use Rattle.quotient.specs.Reduce.{rest_at}
use Rattle.quotient.specs.Points.{from_digits}
use Rattle.grid_chained.specs.Shape.{shape_of}
use Rattle.grid_chained.specs.WorkTurn.{least_below}
use Rattle.grid_chained.proofs.There.{class_of, class_count}

module _ (s : Sides) where
  abbrev axis : ℕ → Glue → Axis
  axis n g = record { count = n; glue = g }

  abbrev flat : Axis → Axis → Grid
  flat a b = record { d = 2; first = a; second = b; third = axis 0 Open; sides = s }

  abbrev first-twelve : List ℕ
  first-twelve = 0 ∷ 1 ∷ 2 ∷ 3 ∷ 4 ∷ 5 ∷ 6 ∷ 7 ∷ 8 ∷ 9 ∷ 10 ∷ 11 ∷ []

  -- 3 x 3, twisted over each other: a projective plane
  pub plane : map (class_of (flat (axis 3 (Twisted 2)) (axis 3 (Twisted 1)))) first-twelve ≡ 0 ∷ 1 ∷ 2 ∷ 3 ∷ 4 ∷ 5 ∷ 6 ∷ 7 ∷ 7 ∷ 8 ∷ 9 ∷ 4 ∷ []
  unfolding axis_of product rest_at from_digits least_below count
  plane = refl

  pub plane-count : class_count (flat (axis 3 (Twisted 2)) (axis 3 (Twisted 1))) ≡ 10
  unfolding axis_of product rest_at from_digits least_below count
  plane-count = refl

  -- 3 x 2, axis 0 twisted over 1: a band, whose classes have other numbers than its vertices
  pub band : map (class_of (flat (axis 3 (Twisted 2)) (axis 2 Open))) first-twelve ≡ 0 ∷ 1 ∷ 2 ∷ 3 ∷ 4 ∷ 5 ∷ 6 ∷ 4 ∷ 3 ∷ 7 ∷ 8 ∷ 0 ∷ []
  unfolding axis_of product rest_at from_digits least_below count
  band = refl

  -- 3 x 1 x 3, axis 0 twisted over 2 and axis 2 over both others
  pub solid-count : class_count (record { d = 3; first = axis 3 (Twisted 4); second = axis 1 Open; third = axis 3 (Twisted 3); sides = s }) ≡ 18
  unfolding axis_of product rest_at from_digits least_below count
  solid-count = refl

  -- 6 is not among the checks before the room
  pub line-shape : (shape_of (record { d = 1; first = axis 4096 Open; second = axis 0 Open; third = axis 0 Open; sides = s }) ∷ check_of (record { d = 1; first = axis 4096 Open; second = axis 0 Open; third = axis 0 Open; sides = s }) ∷ []) ≡ fine ∷ Err TooManyVertices ∷ []
  unfolding shape_of check_of first_where found_at some bad_set axis_of product
  line-shape = refl
