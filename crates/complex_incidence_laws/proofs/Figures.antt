-- The definition on a figure. Assumes nothing.
use mathlib.Core.List.{[], ◌∷◌}
use mathlib.Core.Path.{◌≡◌, refl}
use Rattle.lists.specs.Words.{among}
use Rattle.complex.specs.Skeleton.{numbers}
use Rattle.complex_incidence_laws.specs.After.{without_gone, index_left}

-- triangles 012, 123, 234 without the first: vertices 1, 2, 3, 4 are left, and their cells are 0; 0, 1; 0, 1; 1
two-left : index_left ((0 ∷ []) ∷ (0 ∷ 1 ∷ []) ∷ (0 ∷ 1 ∷ 2 ∷ []) ∷ (1 ∷ 2 ∷ []) ∷ (2 ∷ []) ∷ []) (0 ∷ []) (1 ∷ 2 ∷ 3 ∷ 4 ∷ []) ≡ (0 ∷ []) ∷ (0 ∷ 1 ∷ []) ∷ (0 ∷ 1 ∷ []) ∷ (1 ∷ []) ∷ []
unfolding without_gone numbers among
two-left = refl
