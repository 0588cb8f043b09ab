-- Looks of small lists of cells, computed. Assumes nothing.
use mathlib.Core.List.{List, [], ◌∷◌}
use mathlib.Core.Path.{◌≡◌, refl}
use Prim.Native.Nat.{ℕ}
use Rattle.lists.specs.Words.{first_where, found_at}
use Rattle.orientation_signs.specs.Looks.{looks_of}

abbrev triangle : ℕ → ℕ → ℕ → List ℕ
triangle a b c = a ∷ b ∷ c ∷ []

one-triangle : looks_of 2 (triangle 0 1 2 ∷ []) ≡ 3
unfolding first_where found_at
one-triangle = refl

-- a point has no facet
points : looks_of 0 ((0 ∷ []) ∷ (1 ∷ []) ∷ []) ≡ 0
unfolding first_where found_at
points = refl

-- the conflict is met in the middle of the fourth cell's facets
five : looks_of 2 (triangle 0 1 2 ∷ triangle 1 2 3 ∷ triangle 0 1 4 ∷ triangle 0 3 4 ∷ triangle 2 3 4 ∷ []) ≡ 11
unfolding first_where found_at
five = refl

-- 3×1, axis 0 periodic: all looks
ring : looks_of 2 (triangle 0 2 3 ∷ triangle 0 1 4 ∷ triangle 0 3 4 ∷ triangle 1 2 5 ∷ triangle 2 3 5 ∷ triangle 1 4 5 ∷ []) ≡ 18
unfolding first_where found_at
ring = refl

-- 3×1, axis 0 twisted over axis 1
twisted : looks_of 2 (triangle 0 2 3 ∷ triangle 0 1 4 ∷ triangle 0 3 4 ∷ triangle 0 2 5 ∷ triangle 1 2 5 ∷ triangle 1 4 5 ∷ []) ≡ 15
unfolding first_where found_at
twisted = refl
