-- What `nvertices` comes to, on every input. Assumes nothing.
use Rattle.refusal.specs.declared.Refusal.TheVariants.{TooManyVertices}
use Rattle.refusal.specs.Says.{Counted}
use Rattle.std.specs.Prelude.{Err, Ok, List, [], ◌≡◌, ℕ, ◌<◌, ◌≤◌, length}
use Rattle.refusal.specs.Limits.{most_vertices}
use Rattle.refusal.specs.Lent.{zeroed}
use Rattle.refusal.specs.Call.{Call}
use Rattle.quotient.specs.declared.Grid.{Grid}
use Rattle.grid_chained.specs.Shape.{shape_of, need_of}
use Rattle.grid_chained.specs.Classing.{Classes}

-- how the question ends, once the grid is checked and there is room: 6, or the number m of the classes
pub data CountEnd (m : ℕ) : Counted → List ℕ → Type 0 where
  many : most_vertices < m → CountEnd m (Err TooManyVertices) []
  counted : m ≤ most_vertices → CountEnd m (Ok m) []

-- the promise: r is what the call says, and room' is what the room holds at exit
pub record CountedTo (g : Grid) (r : Counted) (room room' : List ℕ) : Type 0 where
  -- the classes of the grid's points
  pub numbers : List ℕ
  pub count : ℕ
  pub classes : Classes g numbers count
  pub used : ℕ
  pub comes : Call Err [] 0 (shape_of g) (need_of g) (need_of g ≤ length room) (CountEnd count) r [] used
  pub cleared : room' ≡ zeroed used room
