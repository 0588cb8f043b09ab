-- What the call `cell_words` comes to, on every input. Assumes nothing.
use Rattle.refusal.specs.declared.Refusal.TheVariants.{CrowdedFacet, TooShort}
use Rattle.refusal.specs.Says.{Counted}
use Rattle.std.specs.Prelude.{Err, Ok, List, [], ◌≡◌, ℕ, suc, ◌*◌, ◌<◌, ◌≤◌, length}
use Rattle.refusal.specs.declared.Room.{Room}
use Rattle.refusal.specs.Lent.{onto, lengths, Cleared}
use Rattle.refusal.specs.Call.{Comes}
use Rattle.complex.specs.Room.{need_of}
use Rattle.complex.specs.Cells as Complex
use Rattle.complex.specs.Facets.{Crowded}
use Rattle.quotient.specs.declared.Grid.{Grid}
use Rattle.quotient.specs.Shape.{check_of, cell_count}
use Rattle.grid_words.specs.Cells.{words_of, flat_words}

-- the cells of the grid after gluing: its words sorted, in colex order, without duplicates
abbrev pub glued_cells : Grid → List (List ℕ)
glued_cells g = Complex.cells_of g.d (flat_words g)

-- how many corners the words of a grid that is taken have, and what a call on them needs of its working lists
abbrev pub corners_of : Grid → ℕ
corners_of g = cell_count g * suc g.d

abbrev pub grid_need : Grid → Room
grid_need g = need_of g.d (corners_of g)

-- how the call ends, once the grid is checked and there is room: 7, 12, or the words. `given` is the length of the word list.
pub data WordsEnd (g : Grid) (given : ℕ) : Counted → List ℕ → Type 0 where
  -- a facet in three or more cells
  crowded : Crowded g.d (glued_cells g) → WordsEnd g given (Err CrowdedFacet) []
  -- the word list is too short
  short : (Crowded g.d (glued_cells g) → ⊥) → given < length (flat_words g) → WordsEnd g given (Err TooShort) []
  -- the words are handed out
  written : (Crowded g.d (glued_cells g) → ⊥) → length (flat_words g) ≤ given → WordsEnd g given (Ok (length (words_of g))) (flat_words g)

-- the promise: r is what the call says, and a list with ' is what it holds at exit
pub record CellWords (g : Grid) (r : Counted) (words words' keys keys' rows rows' spare spare' counts counts' : List ℕ) : Type 0 where
  pub handed : List ℕ
  pub used : Room
  pub comes : Comes Err [] (check_of g) (grid_need g) (lengths keys rows spare counts) (WordsEnd g (length words)) r handed used
  pub result : words' ≡ onto handed words
  pub room : Cleared used keys keys' rows rows' spare spare' counts counts'
