-- The visits of all corners by number: x is corner x % p of the pattern, of parent x / p. Assumes nothing.
use Rattle.std.specs.Prelude.{◌≡◌, List, ℕ, ◌+◌, ◌*◌, ◌/◌, ◌%◌, ◌≤◌, ◌<◌, length, get_or}
use Rattle.lists.specs.Rows.{row}
use Rattle.lists.specs.Tables.{tab}
use Rattle.refine_lattice.specs.Complex.{weigh}
use Rattle.lists.specs.Words.{none}
use Rattle.refine_births.specs.Support.{row_of, total}

-- the shares of visit x, where the parents' words and the p rows of the pattern stand one after the other
abbrev pub visit_at : ℕ → ℕ → ℕ → List ℕ → List ℕ → ℕ → List ℕ
visit_at size n p words pattern x = tab n (weigh (row words size (x / p)) (row pattern size (x % p)))

-- what writing the rows of the visits of m parents asks
pub record Visiting (size n m p : ℕ) (words pattern keys : List ℕ) : Type 0 where
  pub long : m * size ≤ length words
  pub wide : p * size ≤ length pattern
  pub room : m * p * (size + size) ≤ length keys
  pub few : m * p < none
  pub small : size < none
  pub below : (i : ℕ) → i < m * size → get_or words i 0 < n
  pub named : n < none
  pub light : (q : ℕ) → q < p → total (row pattern size q) < none

-- the rows of the first count visits stand one after the other in keys
abbrev pub Visited : ℕ → ℕ → ℕ → List ℕ → List ℕ → List ℕ → ℕ → Type 0
Visited size n p words pattern keys count = (x : ℕ) → x < count → row keys (size + size) x ≡ row_of size n (visit_at size n p words pattern x)
