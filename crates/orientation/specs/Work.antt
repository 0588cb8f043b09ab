-- What the work of `orientation` asks of its lists, of just the lengths that are needed, and what it gives. Assumes nothing.
use Rattle.refusal.specs.declared.Refusal.{Refusal}
use Rattle.std.specs.Prelude.{Result}
use Rattle.std.specs.Prelude.{List, ◌≡◌, ℕ, ◌*◌, ℤ, length}
use Rattle.refusal.specs.Lent.{onto}
use Rattle.complex.specs.Check.{Passed}
use Rattle.complex.specs.Room.{key_room}
use Rattle.complex.specs.Cells.{cells_of}
use Rattle.orientation.specs.declared.Coherence.{Coherence}
use Rattle.orientation.specs.Promise.{Ends}

-- a checked word list, and the room for its facets' records
pub record Furnished (d : ℕ) (ws keys rows spare counts : List ℕ) : Type 0 where
  pub passed : Passed d ws
  pub keys_long : length keys ≡ length ws * 5
  pub rows_long : length rows ≡ length ws
  pub spare_long : length spare ≡ length ws
  pub counts_long : length counts ≡ length ws

-- the same, with the room for its facet rows
pub record Working (d : ℕ) (ws keys rows spare counts : List ℕ) : Type 0 where
  pub passed : Passed d ws
  pub keys_long : length keys ≡ key_room d (length ws)
  pub rows_long : length rows ≡ length ws
  pub spare_long : length spare ≡ length ws
  pub counts_long : length counts ≡ length ws

-- the call on the cells, and the sign list afterwards
pub record Worked (d : ℕ) (ws : List ℕ) (r : Result Coherence Refusal) (signs signs' : List ℤ) : Type 0 where
  pub handed : List ℤ
  pub ends : Ends d (cells_of d ws) (length signs) r handed
  pub result : signs' ≡ onto handed signs
