-- What the call `cell_words` of the mode of chains comes to, on every input. Assumes nothing.
use Rattle.refusal.specs.declared.Refusal.TheVariants.{CrowdedFacet, TooManyVertices, TooShort, VertexTwice}
use Rattle.refusal.specs.Says.{Counted}
use Rattle.std.specs.Prelude.{Err, Ok, List, [], ◌≡◌, ℕ, ◌+◌, ◌<◌, ◌≤◌, length}
use Rattle.refusal.specs.declared.Room.{Room}
use Rattle.refusal.specs.Limits.{most_vertices}
use Rattle.refusal.specs.Lent.{onto, lengths, Cleared}
use Rattle.refusal.specs.Call.{Comes}
use Rattle.complex.specs.Check.{first_repeat}
use Rattle.complex.specs.Cells as Complex
use Rattle.complex.specs.Facets.{Crowded}
use Rattle.quotient.specs.declared.Grid.{Grid}
use Rattle.quotient.specs.Shape.{cell_count}
use Rattle.grid_mesh.specs.Words.{grid_need}
use Rattle.grid_chained.specs.Shape.{shape_of}
use Rattle.grid_chained.specs.Classing.{at, Classes}
use Rattle.grid_chained_words.specs.Words.{flat_by}

-- ws are the words of the grid's cells, one after the other: the class of each corner, where there are no more classes than there may be vertices
pub record ClassWords (g : Grid) (ws : List ℕ) : Type 0 where
  pub numbers : List ℕ
  pub many : ℕ
  pub classes : Classes g numbers many
  pub few : many ≤ most_vertices
  pub words : ws ≡ flat_by g (at numbers)

-- which word is the first that names a class twice: the number of cells, where none does
abbrev pub first_twice : Grid → List ℕ → ℕ
first_twice g ws = first_repeat (g.d + 1) ws (cell_count g)

-- the words, and none of them names a class twice
pub record Apart (g : Grid) (ws : List ℕ) : Type 0 where
  pub of : ClassWords g ws
  pub none : cell_count g ≤ first_twice g ws

-- a facet in three or more of the cells of the words
abbrev pub Crowd : Grid → List ℕ → Type 0
Crowd g ws = Crowded g.d (Complex.cells_of g.d ws)

-- how the call ends, once the grid is checked and there is room: 6, 4, 7, 12, or the words. `given` is the length of the word list.
pub data WordsEnd (g : Grid) (given : ℕ) : Counted → List ℕ → Type 0 where
  -- more classes than there may be vertices
  many : (numbers : List ℕ) (m : ℕ) → Classes g numbers m → most_vertices < m → WordsEnd g given (Err TooManyVertices) []
  -- a word names a class twice: the first such word is told
  twice : (ws : List ℕ) → ClassWords g ws → first_twice g ws < cell_count g → WordsEnd g given (Err (VertexTwice (first_twice g ws))) []
  -- a facet in three or more cells
  crowded : (ws : List ℕ) → Apart g ws → Crowd g ws → WordsEnd g given (Err CrowdedFacet) []
  -- the word list is too short
  short : (ws : List ℕ) → Apart g ws → (Crowd g ws → ⊥) → given < length ws → WordsEnd g given (Err TooShort) []
  -- the words are handed out
  written : (ws : List ℕ) → Apart g ws → (Crowd g ws → ⊥) → length ws ≤ given → WordsEnd g given (Ok (cell_count g)) ws

-- the promise: r is what the call says, and a list with ' is what it holds at exit
pub record CellWords (g : Grid) (r : Counted) (words words' keys keys' rows rows' spare spare' counts counts' : List ℕ) : Type 0 where
  pub handed : List ℕ
  pub used : Room
  pub comes : Comes Err [] (shape_of g) (grid_need g) (lengths keys rows spare counts) (WordsEnd g (length words)) r handed used
  pub result : words' ≡ onto handed words
  pub room : Cleared used keys keys' rows rows' spare spare' counts counts'
