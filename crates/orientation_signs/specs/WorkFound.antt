-- Signs found by the walk, which has 1 for + and 2 for -. Assumes nothing.
use Rattle.std.specs.Prelude.{Bool, true, false, List, [], ◌∷◌, ◌≡◌, ℕ, zero, suc, ◌*◌, ◌<◌, ◌≤◌, ℤ, pos, negsuc, length, get_or}
use Rattle.complex.specs.Facets.{slots}
use Rattle.lists.specs.Words.{none}
use Rattle.complex_mates.specs.Table.{MateTable}
use Rattle.complex_facets.specs.WorkAcross.{Linked}
use Rattle.multiindex.specs.Sign.{Sign, plus, minus}
use Rattle.orientation_signs.specs.Signs.{Coherent, Oriented}
use Rattle.orientation_signs.specs.Looks.{looks_of}

-- the sign that the walk's number stands for
abbrev pub sign_of : ℕ → Sign
sign_of zero = minus
sign_of (suc zero) = plus
sign_of (suc (suc n)) = minus

-- and as it is handed out
abbrev pub mark_number : ℕ → ℤ
mark_number zero = negsuc 0
mark_number (suc zero) = pos 1
mark_number (suc (suc n)) = negsuc 0

abbrev pub handed_out : List ℕ → List ℤ
handed_out [] = []
handed_out (n ∷ ns) = mark_number n ∷ handed_out ns

-- what the search for signs of m cells asks: the cell across each of their facets and whether signs differ there
pub record Searching (d m : ℕ) (other flip marks stack : List ℕ) : Type 0 where
  pub cs : List (List ℕ)
  pub many : length cs ≡ m
  pub linked : Linked d cs other flip
  pub other_long : m * slots d ≤ length other
  pub flip_long : m * slots d ≤ length flip
  pub marks_long : m ≤ length marks
  pub stack_long : m ≤ length stack
  pub few : m * suc d < none
  pub small : d < none

-- the same where a table of mates stands in rows
pub record Finding (d m : ℕ) (rows keys spare counts : List ℕ) : Type 0 where
  pub cs : List (List ℕ)
  pub many : length cs ≡ m
  pub mates : MateTable d cs rows
  pub rows_long : m * slots d ≤ length rows
  pub keys_long : m * slots d ≤ length keys
  pub spare_long : m * slots d ≤ length spare
  pub counts_long : m ≤ length counts
  pub stack_long : m ≤ length rows
  pub few : m * suc d < none
  pub small : d < none

-- what it gives: the signs, or that there are none; and the looks of the walk
pub record Found (d : ℕ) (cs : List (List ℕ)) (ok : Bool) (looks : ℕ) (marks : List ℕ) : Type 0 where
  pub yes : ok ≡ true → Oriented d cs (λ c. sign_of (get_or marks c 0))
  pub no : ok ≡ false → (σ : ℕ → Sign) → Coherent d cs σ → ⊥
  pub made : looks ≡ looks_of d cs
