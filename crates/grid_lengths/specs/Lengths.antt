-- What the call `edge_lengths_sq` comes to, on every input. Assumes nothing.
use Rattle.refusal.specs.declared.Refusal.TheVariants.{TooShort, TwoLengths}
use Rattle.refusal.specs.Says.{Counted}
use Rattle.std.specs.Prelude.{Err, Ok, List, [], map, ◌≡◌, ℕ, ◌*◌, ◌<◌, ◌≤◌, Float, length, get_or}
use Rattle.refusal.specs.declared.Room.{Room}
use Rattle.refusal.specs.Lent.{onto, lengths, Cleared}
use Rattle.refusal.specs.Call.{Comes}
use Rattle.quotient.specs.declared.Grid.{Grid}
use Rattle.quotient.specs.Shape.{sides_check_of}
use Rattle.grid_lengths.specs.declared.EdgeLength.{EdgeLength}
use Rattle.grid_lengths.specs.declared.EdgeLength.TheVariants.{Length}
use Rattle.grid_lengths.specs.Edges.{visits_of, edges_of}
use Rattle.grid_lengths.specs.Settled.{settle, edge_values}
use Rattle.grid_lengths.specs.Noted.{Clashed}

-- two ends for each edge of each cell, d * (d + 1) for each cell: what the call needs of each working list
abbrev pub ends_room : Grid → ℕ
ends_room g = visits_of g * 2

abbrev pub lengths_need : Grid → Room
lengths_need g = record { keys = ends_room g; rows = ends_room g; spare = ends_room g; counts = ends_room g }

-- what the values of an edge come to: the answer to the question of one edge
abbrev pub settled_of : Grid → List ℕ → EdgeLength
settled_of g e = settle (edge_values g (get_or e 0 0) (get_or e 1 0))

-- how the call ends, once the grid is checked and there is room: 15, 12, or the lengths. `given` is the length of the length list.
pub data LengthsEnd (g : Grid) (given : ℕ) : Counted → List Float → Type 0 where
  -- an edge gets two lengths
  clashing : Clashed g → LengthsEnd g given (Err TwoLengths) []
  -- the length list is too short
  short : (Clashed g → ⊥) → given < length (edges_of g) → LengthsEnd g given (Err TooShort) []
  -- each edge has its length
  listed : (Clashed g → ⊥) → length (edges_of g) ≤ given → {xs : List Float} → map (settled_of g) (edges_of g) ≡ map Length xs → LengthsEnd g given (Ok (length (edges_of g))) xs

-- the promise: r is what the call says, and a list with ' is what it holds at exit
pub record EdgeLengths (g : Grid) (r : Counted) (out out' : List Float) (keys keys' rows rows' spare spare' counts counts' : List ℕ) : Type 0 where
  pub handed : List Float
  pub used : Room
  pub comes : Comes Err [] (sides_check_of g) (lengths_need g) (lengths keys rows spare counts) (LengthsEnd g (length out)) r handed used
  pub result : out' ≡ onto handed out
  pub room : Cleared used keys keys' rows rows' spare spare' counts counts'
