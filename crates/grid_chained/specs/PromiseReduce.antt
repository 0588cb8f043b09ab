-- What `reduce` comes to, on every input. Assumes nothing.
use Rattle.refusal.specs.declared.Refusal.TheVariants.{TooManyVertices}
use Rattle.grid_chained.specs.Says.{Classed}
use Rattle.std.specs.Prelude.{Err, Ok, List, [], ◌≡◌, ℕ, ◌<◌, ◌≤◌, length}
use Rattle.refusal.specs.Limits.{most_vertices}
use Rattle.refusal.specs.Lent.{zeroed}
use Rattle.refusal.specs.Call.{Call}
use Rattle.quotient.specs.declared.Grid.{Grid}
use Rattle.quotient.specs.Points.{points_of}
use Rattle.quotient.specs.Reduce.{no_vertex}
use Rattle.grid_chained.specs.Shape.{shape_of, need_of}
use Rattle.grid_chained.specs.Classing.{at, Classes}

-- how the question ends, once the grid is checked and there is room: 6, or the number of v's class, which is no class past the last point
pub data ReduceEnd (g : Grid) (numbers : List ℕ) (m v : ℕ) : Classed → List ℕ → Type 0 where
  many : most_vertices < m → ReduceEnd g numbers m v (Err TooManyVertices) []
  inside : m ≤ most_vertices → v < points_of g → ReduceEnd g numbers m v (Ok (record { 0 = at numbers v })) []
  past : m ≤ most_vertices → points_of g ≤ v → ReduceEnd g numbers m v (Ok (record { 0 = no_vertex })) []

-- the promise: r is what the call says, and room' is what the room holds at exit
pub record ReducedTo (g : Grid) (v : ℕ) (r : Classed) (room room' : List ℕ) : Type 0 where
  -- the classes of the grid's points
  pub numbers : List ℕ
  pub count : ℕ
  pub classes : Classes g numbers count
  pub used : ℕ
  pub comes : Call Err [] 0 (shape_of g) (need_of g) (need_of g ≤ length room) (ReduceEnd g numbers count v) r [] used
  pub cleared : room' ≡ zeroed used room
