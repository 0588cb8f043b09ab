-- What the call `triangulate_ordered` comes to, on every input. Assumes nothing.
use Rattle.refusal.specs.declared.Refusal.{Refusal}
use Rattle.refusal.specs.declared.Refusal.TheVariants.{CrowdedFacet, TooShort}
use Rattle.std.specs.Prelude.{Err, Ok, Result, List, [], ◌≡◌, ℕ, suc, ◌+◌, ◌*◌, ◌<◌, ◌≤◌, length}
use Rattle.refusal.specs.declared.Room.{Room}
use Rattle.refusal.specs.Lent.{onto, lengths, Cleared}
use Rattle.refusal.specs.Call.{Comes}
use Rattle.lists.specs.Rows.{rows, flat}
use Rattle.complex.specs.Room.{key_room}
use Rattle.complex.specs.Facets.{Crowded}
use Rattle.quotient.specs.declared.Grid.{Grid}
use Rattle.quotient.specs.Shape.{check_of}
use Rattle.grid_words.specs.Cells.{flat_words}
use Rattle.grid_mesh.specs.Words.{glued_cells, corners_of}
use Rattle.ordering_words.specs.Order.{IsOrder, AgreeOnFacets, by_cell}
use Rattle.grid_order.specs.declared.Triangulated.{Triangulated}
use Rattle.grid_order.specs.declared.Triangulated.TheVariants.{Ordered, Unordered}

-- the grid's words, and the same by cell: the first word that sorts to each cell
abbrev pub own_words : Grid → List (List ℕ)
own_words g = rows (suc g.d) (flat_words g)

abbrev pub words_by_cell : Grid → List (List ℕ)
words_by_cell g = by_cell (own_words g) (glued_cells g)

-- an order is handed out: no two words sort to one cell, so that they are one for each cell, and all facets agree
pub record HandsOut (g : Grid) : Type 0 where
  pub order : IsOrder (glued_cells g) (own_words g)
  pub agree : AgreeOnFacets g.d (glued_cells g) (words_by_cell g)

-- what the call needs of its working lists, for words with n corners: in keys the facet rows, the words by cell and the cells
abbrev pub triangulated_room : ℕ → ℕ → Room
triangulated_room d n = record { keys = key_room d n + n + n; rows = n; spare = n; counts = n }

abbrev pub order_room : Grid → Room
order_room g = triangulated_room g.d (corners_of g)

-- how many numbers the cells have
abbrev pub cells_length : Grid → ℕ
cells_length g = length (glued_cells g) * suc g.d

-- what is handed out: the cells and the order's words by cell, one after the other
pub record Handed : Type 0 where
  pub cells : List ℕ
  pub order : List ℕ

abbrev pub nothing : Handed
nothing = record { cells = []; order = [] }

-- how the call ends, once the grid is checked and there is room: 7, 12, or the cells with an order or without. `cells` and `order` are the lengths of the result lists.
pub data Ends (g : Grid) (cells order : ℕ) : Result Triangulated Refusal → Handed → Type 0 where
  -- a facet in three or more cells
  crowded : Crowded g.d (glued_cells g) → Ends g cells order (Err CrowdedFacet) nothing
  -- the list of the cells is too short
  short : (Crowded g.d (glued_cells g) → ⊥) → cells < cells_length g → Ends g cells order (Err TooShort) nothing
  -- an order is to be handed out, and its list is too short
  short_order : (Crowded g.d (glued_cells g) → ⊥) → HandsOut g → order < cells_length g → Ends g cells order (Err TooShort) nothing
  -- the cells and the order
  ordered : (Crowded g.d (glued_cells g) → ⊥) → HandsOut g → cells_length g ≤ cells → cells_length g ≤ order → Ends g cells order (Ok (Ordered (length (glued_cells g)))) (record { cells = flat (glued_cells g); order = flat (words_by_cell g) })
  -- the cells, and no order
  unordered : (Crowded g.d (glued_cells g) → ⊥) → (HandsOut g → ⊥) → cells_length g ≤ cells → Ends g cells order (Ok (Unordered (length (glued_cells g)))) (record { cells = flat (glued_cells g); order = [] })

-- the promise: r is what the call says, and a list with ' is what it holds at exit
pub record TriangulateOrdered (g : Grid) (r : Result Triangulated Refusal) (cells cells' order order' keys keys' rows rows' spare spare' counts counts' : List ℕ) : Type 0 where
  pub handed : Handed
  pub used : Room
  pub comes : Comes Err nothing (check_of g) (order_room g) (lengths keys rows spare counts) (Ends g (length cells) (length order)) r handed used
  pub the_cells : cells' ≡ onto handed.cells cells
  pub the_order : order' ≡ onto handed.order order
  pub room : Cleared used keys keys' rows rows' spare spare' counts counts'
