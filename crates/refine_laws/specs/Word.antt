-- The word that a cell is refined by, as a call and as a value: `word_of` reads it from the lists that `cells` and `ordering` hand out. Assumes nothing.
use Rattle.std.specs.Prelude.{true, false, List, ◌≡◌, ℕ, ◌<◌, length}
use Rattle.refusal.specs.Lent.{onto}
use Rattle.lists.specs.Rows.{flat}
use Rattle.complex.specs.Check.{Passed}
use Rattle.complex.specs.Cells.{cells_of}
use Rattle.complex.specs.Facets.{cell_at}
use Rattle.ordering_words.specs.Order.{Orders}
use Rattle.refine_results.specs.Refined.{order_words}
use Rattle.refine_values.specs.Reading.{word_along}

-- `word_of` cell c, lent the list where `cells` stored the cells and the list where `ordering` stored the order's words by cell
pub record WordRefined (d : ℕ) (ws os cells by : List ℕ) (c : ℕ) : Type 0 where
  -- where an order is given: the word that `refine_with` refines the cell by
  pub ordered : Orders d (cells_of d ws) os → (other : List ℕ) → word_along true d c other (onto (flat (order_words d ws os)) by) ≡ cell_at (order_words d ws os) c
  -- where none is: the word that `refine` refines it by, its sorted vertices
  pub sorted : (other : List ℕ) → word_along false d c (onto (flat (cells_of d ws)) cells) other ≡ cell_at (cells_of d ws) c

-- of every cell of a checked cell list
unfoldable pub WordLaw : ℕ → List ℕ → List ℕ → Type 0
WordLaw d ws os = (cells by : List ℕ) (c : ℕ) → Passed d ws → c < length (cells_of d ws) → WordRefined d ws os cells by c
