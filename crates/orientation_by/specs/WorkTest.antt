-- The test of signs over a table of mates. A mark is 1 for + and 2 for -. Assumes nothing.
use Rattle.std.specs.Prelude.{Bool, true, false, List, ◌≡◌, ℕ, zero, suc, ◌/◌, ◌<◌, ◌≤◌, ℤ, pos, negsuc, length, get_or}
use Rattle.lists.specs.Words.{none}
use Rattle.orientation_walk.specs.WorkSigns.{turned}
use Rattle.orientation_walk.specs.WorkSigns as walk
use Rattle.multiindex.specs.Sign.{Sign}
use Rattle.orientation_signs.specs.Signs.{Coherent}
use Rattle.orientation_signs.specs.WorkFound.{sign_of, Searching, Finding}
use Rattle.orientation_by.specs.Promise.{Given}

-- the mark of a number: 1 for +1, 2 for -1, and 0 for any other
abbrev pub mark_of : ℤ → ℕ
mark_of (pos zero) = 0
mark_of (pos (suc zero)) = 1
mark_of (pos (suc (suc n))) = 0
mark_of (negsuc zero) = 2
mark_of (negsuc (suc n)) = 0

-- where slot x leads to a cell, that cell's mark is as the flip and the own cell's mark say
abbrev pub AgreesAt : ℕ → List ℕ → List ℕ → List ℕ → ℕ → Type 0
AgreesAt k o fl marks x = (get_or o x 0 ≡ none → ⊥) → get_or marks (get_or o x 0) 0 ≡ turned (get_or fl x 0) (get_or marks (x / k) 0)

-- some slot does not agree
pub record Clash (k n : ℕ) (o fl marks : List ℕ) : Type 0 where
  pub slot : ℕ
  pub below : slot < n
  pub other : AgreesAt k o fl marks slot → ⊥

-- what looking at n slots asks
pub record Looking (k n : ℕ) (o fl marks : List ℕ) : Type 0 where
  pub others : n ≤ length o
  pub flips : n ≤ length fl
  pub some : (x : ℕ) → x < n → 0 < k
  pub cells : (x : ℕ) → x < n → (get_or o x 0 ≡ none → ⊥) → get_or o x 0 < length marks
  pub own : (x : ℕ) → x < n → x / k < length marks
  pub small : (x : ℕ) → x < n → get_or marks (x / k) 0 ≤ 2

-- what the test of m cells' marks asks: the cell across each of their facets and whether signs differ there
pub record Weighing (d m : ℕ) (other flip marks : List ℕ) : Type 0 where
  pub searching : Searching d m other flip marks marks
  pub signs : (c : ℕ) → c < m → walk.Sign (get_or marks c 0)

-- the same where a table of mates stands in rows
pub record Testing (d m : ℕ) (rows keys spare marks : List ℕ) : Type 0 where
  pub finding : Finding d m rows keys spare marks
  pub signs : (c : ℕ) → c < m → walk.Sign (get_or marks c 0)

-- what it says
pub record Tested (d : ℕ) (cs : List (List ℕ)) (r : Bool) (σ : ℕ → Sign) : Type 0 where
  pub yes : r ≡ true → (0 < d) × Coherent d cs σ
  pub no : r ≡ false → 0 < d → Coherent d cs σ → ⊥

-- the signs of m cells stand in `marks`
pub record TakenOver (m : ℕ) (signs : List ℤ) (marks : List ℕ) : Type 0 where
  pub given : Given signs m (λ c. sign_of (get_or marks c 0))
  pub fit : (c : ℕ) → c < m → walk.Sign (get_or marks c 0)
