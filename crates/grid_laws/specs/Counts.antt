-- What is to be shown of how many cells a glued grid has, of where an order is handed out, and of the room that the calls need. Assumes nothing.
use Rattle.std.specs.Prelude.{[], ◌≡◌, ℕ, ◌+◌, ◌*◌, ◌≤◌, ◌<◌, length, get_or}
use Rattle.refusal.specs.declared.Room.{Room}
use Rattle.multiindex.specs.Sort.{sort_word}
use Rattle.quotient.specs.declared.Grid.{Grid}
use Rattle.quotient.specs.Fold.{product, factorial}
use Rattle.quotient.specs.Shape.{cells_on}
use Rattle.grid_mesh.specs.Words.{glued_cells, corners_of}
use Rattle.ordering_words.specs.Order.{AgreeOnFacets}
use Rattle.grid_order.specs.Promise.{own_words, words_by_cell, HandsOut}

-- d! cells for each box
abbrev pub CellsForBoxes : Grid → Type 0
CellsForBoxes g = length (glued_cells g) ≡ factorial g.d * product (cells_on g) g.d

-- no two words sort to one cell
abbrev pub WordsApart : Grid → Type 0
WordsApart g = (i j : ℕ) → i < j → j < length (own_words g) → sort_word (get_or (own_words g) i []) ≡ sort_word (get_or (own_words g) j []) → ⊥

-- an order is handed out exactly where no two words sort to one cell and all facets agree
pub record HandsOutExactly (g : Grid) : Type 0 where
  pub only : HandsOut g → WordsApart g × AgreeOnFacets g.d (glued_cells g) (words_by_cell g)
  pub all : WordsApart g → AgreeOnFacets g.d (glued_cells g) (words_by_cell g) → HandsOut g

-- a need keeps document 01's bound: at most 32 numbers for each corner of the words, plus 16,384
abbrev pub KeepsBound : Grid → Room → Type 0
KeepsBound g need = need.keys + need.rows + need.spare + need.counts ≤ 32 * corners_of g + 16384
