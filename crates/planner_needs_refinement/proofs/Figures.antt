-- The lengths for a triangle refined by two. Assumes nothing.
use mathlib.Core.List.{List, [], ◌∷◌}
use mathlib.Core.Path.{◌≡◌, refl}
use Prim.Native.Nat.{ℕ}
use lib.ListN.{take}
use Rattle.needs.specs.Needs.{worked}
use Rattle.planner_needs_refinement.specs.Needs.{refine_need, corners_need}

-- the result lists: four children, at most twelve births
pub triangle-by-two : ◌≡◌ {A = List ℕ} (take 8 (refine_need 2 (worked 2 3) 2)) (12 ∷ 12 ∷ 4 ∷ 36 ∷ 36 ∷ 36 ∷ 36 ∷ 36 ∷ [])
unfolding worked
triangle-by-two = refl

pub pattern-by-two : ◌≡◌ {A = List ℕ} (corners_need 2 2) (36 ∷ [])
unfolding corners_need
pattern-by-two = refl
