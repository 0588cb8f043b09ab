-- Document 01's figures, computed from the definitions that the contracts cite. Assumes nothing.
use Rattle.refusal.specs.declared.Refusal.TheVariants.{BadReflection, ShortAxis, TooManyCells, TooManyVertices}
use Rattle.refusal.specs.Says.{Answer, fine}
use Rattle.std.specs.Prelude.{Err, Ok}
use mathlib.Core.Path.{◌≡◌, refl}
use mathlib.Core.List.{List, [], ◌∷◌, map}
use Prim.Native.Nat.{ℕ}
use mathlib.Core.Bool.{false}
use lib.IntN.{pos}
use lib.Ieee.{Float, fin}
use Rattle.lists.specs.Words.{found_at, first_where}
use Rattle.quotient.specs.declared.Glue.{Glue}
use Rattle.quotient.specs.declared.Glue.TheVariants.{Open, Periodic, Twisted}
use Rattle.quotient.specs.declared.Axis.{Axis}
use Rattle.quotient.specs.declared.Grid.{Grid}
use Rattle.quotient.specs.declared.Crossing.{Crossing}
use Rattle.quotient.specs.Fold.{product, some, count, set_below}
use Rattle.quotient.specs.Shape.{axis_of, bad_set, check_of, odd_set, parity_of}
use Rattle.quotient.specs.Reduce.{rest_at, reflected_by, number_to, vertex_of, wrapped_set, reversed_set, crossing_of}

abbrev axis : ℕ → Glue → Axis
axis n g = record { count = n; glue = g }

abbrev one : Float
one = fin false 1 (pos 0)

abbrev flat : ℕ → Axis → Axis → Grid
flat d a b = record { d = d; first = a; second = b; third = axis 0 Open; sides = record { first = one; second = one; third = one } }

abbrev first-nine : List ℕ
first-nine = 0 ∷ 1 ∷ 2 ∷ 3 ∷ 4 ∷ 5 ∷ 6 ∷ 7 ∷ 8 ∷ []

-- 3 x 1, axis 0 twisted over 1
pub band : map (vertex_of (flat 2 (axis 3 (Twisted 2)) (axis 1 Open))) first-nine ≡ 0 ∷ 1 ∷ 2 ∷ 3 ∷ 3 ∷ 4 ∷ 5 ∷ 0 ∷ 4294967295 ∷ []
unfolding axis_of product rest_at reflected_by number_to
band = refl

-- 3 x 1, axis 0 periodic
pub ring : map (vertex_of (flat 2 (axis 3 Periodic) (axis 1 Open))) first-nine ≡ 0 ∷ 1 ∷ 2 ∷ 0 ∷ 3 ∷ 4 ∷ 5 ∷ 3 ∷ 4294967295 ∷ []
unfolding axis_of product rest_at reflected_by number_to
ring = refl

-- a vertex, and the wrapped and the reversed axes as masks
abbrev crossing : ℕ → ℕ → ℕ → Crossing
crossing x w r = record { vertex = record { 0 = x }; wrapped = w; reversed = r }

-- the band across its seam: points 3 and 7 wrap on axis 0 and come out reversed on axis 1; 8 is past the last point
pub band-seam : map (crossing_of (flat 2 (axis 3 (Twisted 2)) (axis 1 Open))) first-nine
    ≡ crossing 0 0 0 ∷ crossing 1 0 0 ∷ crossing 2 0 0 ∷ crossing 3 1 2 ∷ crossing 3 0 0 ∷ crossing 4 0 0 ∷ crossing 5 0 0 ∷ crossing 0 1 2 ∷ crossing 4294967295 0 0 ∷ []
unfolding axis_of product rest_at reflected_by number_to count set_below wrapped_set reversed_set
band-seam = refl

-- 3 x 2, axis 0 twisted over 1: point 7 is (3, 1), and axis 1 counts as reversed although 1 is its own mirror
pub mirror-seam : crossing_of (flat 2 (axis 3 (Twisted 2)) (axis 2 Open)) 7 ≡ crossing 3 1 2
unfolding axis_of product rest_at reflected_by number_to count set_below wrapped_set reversed_set
mirror-seam = refl

-- 3 x 3 x 1, axes 0 and 1 twisted over 2: at point 15 both wrap, and their reflections cancel
abbrev solid : Grid
solid = record { d = 3; first = axis 3 (Twisted 4); second = axis 3 (Twisted 4); third = axis 1 Open; sides = record { first = one; second = one; third = one } }

pub cancelled-seam : map (crossing_of solid) (3 ∷ 12 ∷ 15 ∷ []) ≡ crossing 9 1 4 ∷ crossing 9 2 4 ∷ crossing 0 3 0 ∷ []
unfolding axis_of product rest_at reflected_by number_to count set_below wrapped_set reversed_set
cancelled-seam = refl

-- 3 x 3, each axis twisted over the other. Wrapped is what lies at the far end in the point as given: point 3 is (3, 0), axis 0 turns its axis 1 to 3, which is taken modulo 3
-- and yet is not wrapped
pub tangled-seam : map (crossing_of (flat 2 (axis 3 (Twisted 2)) (axis 3 (Twisted 1)))) (3 ∷ 7 ∷ 12 ∷ 13 ∷ 15 ∷ [])
    ≡ crossing 0 1 2 ∷ crossing 6 1 2 ∷ crossing 0 2 1 ∷ crossing 2 2 1 ∷ crossing 0 3 3 ∷ []
unfolding axis_of product rest_at reflected_by number_to count set_below wrapped_set reversed_set
tangled-seam = refl

pub band-odd : parity_of (flat 2 (axis 3 (Twisted 2)) (axis 1 Open)) ≡ Ok false
unfolding parity_of check_of first_where found_at some count bad_set odd_set axis_of product
band-odd = refl

-- the edges of the limits
abbrev line : ℕ → Glue → Answer
line n g = check_of (flat 1 (axis n g) (axis 0 Open))

pub limits : (line 2 Periodic ∷ line 3 Periodic ∷ line 0 Open ∷ line 1 Open ∷ line 4095 Open ∷ line 4096 Open ∷ line 4097 Open ∷ line 4 (Twisted 1) ∷ line 4 (Twisted 2) ∷ [])
    ≡ Err (ShortAxis 0) ∷ fine ∷ Err (ShortAxis 0) ∷ fine ∷ fine ∷ Err TooManyVertices ∷ Err TooManyCells ∷ Err (BadReflection 0) ∷ Err (BadReflection 0) ∷ []
unfolding check_of first_where found_at some bad_set axis_of product
limits = refl
