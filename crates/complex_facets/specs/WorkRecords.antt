-- The facet records as the code has them: by row numbers, k rows a cell. Assumes nothing.
use Rattle.std.specs.Prelude.{Bool, true, false, List, [], ◌∷◌, ◌++◌, ℕ, zero, suc, ◌+◌, ◌-◌, ◌*◌, ◌%◌, ◌<◌, ◌≤◌, eqb, length, get_or}
use Rattle.lists.specs.Words.{none}
use Rattle.complex_facets.specs.WorkSides.{cell_of}

-- 0 where the test holds, else the number
abbrev pub zero_if : Bool → ℕ → ℕ
zero_if true v = 0
zero_if false v = v

abbrev pub sign_at : ℕ → ℕ → ℕ → ℕ
sign_at d k x = zero_if (eqb x none) ((d - x % k) % 2 + 1)

abbrev pub five_of : ℕ → ℕ → ℕ → ℕ → List ℕ
five_of d k x y = cell_of k x ∷ sign_at d k x ∷ cell_of k y ∷ sign_at d k y ∷ 1 ∷ []

unfoldable pub fives : ℕ → ℕ → ℕ → List ℕ → List ℕ → List ℕ
fives d k zero reps others = []
fives d k (suc f) reps others = fives d k f reps others ++ five_of d k (get_or reps f 0) (get_or others f 0)

-- what writing f facets' records asks
pub record Recording (d k f : ℕ) (reps others records : List ℕ) : Type 0 where
  pub some : 0 < f → 0 < k
  pub few : k ≤ suc d
  pub dim : d < 4294967295
  pub in_reps : f ≤ length reps
  pub in_others : f ≤ length others
  pub room : f * 5 ≤ length records
