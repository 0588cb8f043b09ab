-- The test of agreement over a table of mates, and the words' signs as marks. A flat list has the words by cell, and behind them the cells. Assumes nothing.
use Rattle.std.specs.Prelude.{List, ◌≡◌, ℕ, ◌+◌, ◌-◌, ◌*◌, ◌/◌, ◌%◌, ◌<◌, ◌≤◌, length, get_or}
use Rattle.refusal.specs.Limits.{many_corners}
use Rattle.lists.specs.Rows.{row}
use Rattle.multiindex.specs.Sort.{inversions}
use Rattle.complex.specs.Facets.{slots}
use Rattle.lists.specs.Words.{without, none}

-- the word of facet row x's cell, without the vertex that is dropped
abbrev pub row_word : ℕ → ℕ → ℕ → List ℕ → ℕ → List ℕ
row_word d k m list x = without (get_or list (m * (d + 1) + x / k * (d + 1) + (d - x % k)) 0) (row list (d + 1) (x / k))

-- what reading rows x and y asks
pub record Reading (d k m : ℕ) (list : List ℕ) (x y : ℕ) : Type 0 where
  pub some : 0 < k
  pub few : k ≤ d + 1
  pub cell : x / k < m
  pub other : y / k < m
  pub long : m * (d + 1) + m * (d + 1) ≤ length list
  pub short : m * (d + 1) < many_corners
  pub dim : d < many_corners

-- the words agree on the facet of row x, where it has a mate
abbrev pub AgreesAt : ℕ → ℕ → List ℕ → List ℕ → ℕ → Type 0
AgreesAt d m mates list x = (get_or mates x 0 ≡ none → ⊥) → row_word d (slots d) m list x ≡ row_word d (slots d) m list (get_or mates x 0)

-- on some facet they do not
pub record Clash (d m : ℕ) (mates list : List ℕ) : Type 0 where
  pub at : ℕ
  pub below : at < m * slots d
  pub other : AgreesAt d m mates list at → ⊥

-- what the test asks
pub record Agreeing (d m : ℕ) (mates list : List ℕ) : Type 0 where
  pub mates_long : m * slots d ≤ length mates
  pub long : m * (d + 1) + m * (d + 1) ≤ length list
  pub below : (x : ℕ) → x < m * slots d → (get_or mates x 0 ≡ none → ⊥) → get_or mates x 0 < m * slots d
  pub short : m * (d + 1) < many_corners
  pub dim : d < many_corners

-- the sign of word c as a mark
abbrev pub mark_at : ℕ → List ℕ → ℕ → ℕ
mark_at n list c = inversions (row list n c) % 2 + 1

-- what writing the marks asks
pub record Marking (n m : ℕ) (list marks : List ℕ) : Type 0 where
  pub long : m * n ≤ length list
  pub marks_long : m ≤ length marks
  pub short : m * n < many_corners
  pub size : n < many_corners
