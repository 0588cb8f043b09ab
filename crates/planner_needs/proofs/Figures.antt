-- The lengths for two triangles, for words past the limit, and past the largest dimension. Assumes nothing.
use mathlib.Core.List.{List, [], ◌∷◌}
use mathlib.Core.Path.{◌≡◌, refl}
use Prim.Native.Nat.{ℕ, suc, ◌*◌}
use Rattle.refusal.specs.Limits.{most_cells, most_dimension}
use Rattle.needs.specs.Needs.{worked}
use Rattle.planner_needs.specs.Needs.{cells_need, edges_need, facets_need}

pub two-triangles : ◌≡◌ {A = List ℕ} (cells_need 2 (worked 2 6)) (6 ∷ 12 ∷ 6 ∷ 6 ∷ 6 ∷ [])
unfolding worked
two-triangles = refl

pub edges-of-two : ◌≡◌ {A = List ℕ} (edges_need 2 (worked 2 6)) (12 ∷ 24 ∷ 12 ∷ 12 ∷ 12 ∷ [])
unfolding worked
edges-of-two = refl

pub too_many : ◌≡◌ {A = List ℕ} (facets_need 2 (worked 2 (suc (most_cells * 3)))) (0 ∷ 0 ∷ 0 ∷ 0 ∷ 0 ∷ 0 ∷ [])
unfolding worked
too_many = refl

pub too-high : ◌≡◌ {A = List ℕ} (cells_need (suc most_dimension) (worked (suc most_dimension) 10)) (0 ∷ 0 ∷ 0 ∷ 0 ∷ 0 ∷ [])
unfolding worked
too-high = refl
