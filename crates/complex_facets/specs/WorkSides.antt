-- The facet table as the code has it: by row numbers, k rows a cell. Assumes nothing.
use Rattle.std.specs.Prelude.{Bool, true, false, List, [], ◌∷◌, ◌++◌, ℕ, zero, suc, ◌-◌, ◌*◌, ◌/◌, ◌%◌, ◌<◌, ◌≤◌, eqb, length, get_or}
use Rattle.lists.specs.Words.{none}

-- 4,294,967,295 where the test holds, else the number
abbrev pub or_none : Bool → ℕ → ℕ
or_none true v = none
or_none false v = v

abbrev pub cell_of : ℕ → ℕ → ℕ
cell_of k x = or_none (eqb x none) (x / k)

abbrev pub place_of : ℕ → ℕ → ℕ → ℕ
place_of d k x = or_none (eqb x none) (d - x % k)

abbrev pub four_of : ℕ → ℕ → ℕ → ℕ → List ℕ
four_of d k x y = cell_of k x ∷ place_of d k x ∷ cell_of k y ∷ place_of d k y ∷ []

unfoldable pub fours : ℕ → ℕ → ℕ → List ℕ → List ℕ → List ℕ
fours d k zero reps others = []
fours d k (suc f) reps others = fours d k f reps others ++ four_of d k (get_or reps f 0) (get_or others f 0)

-- what writing f facets' numbers asks
pub record Tabling (d k f : ℕ) (reps others table : List ℕ) : Type 0 where
  pub some : 0 < f → 0 < k
  pub few : k ≤ suc d
  pub dim : d < 4294967295
  pub in_reps : f ≤ length reps
  pub in_others : f ≤ length others
  pub room : f * 4 ≤ length table
