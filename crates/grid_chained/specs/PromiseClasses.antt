-- What `classes` and `closed_classes` come to, on every input. Assumes nothing.
use Rattle.refusal.specs.declared.Refusal.TheVariants.{TooManyVertices, TooShort}
use Rattle.refusal.specs.Says.{Counted}
use Rattle.std.specs.Prelude.{Err, Ok, List, [], ◌≡◌, ℕ, ◌<◌, ◌≤◌, length}
use Rattle.refusal.specs.Limits.{most_vertices}
use Rattle.refusal.specs.Lent.{onto, zeroed}
use Rattle.refusal.specs.Call.{Call}
use Rattle.quotient.specs.declared.Grid.{Grid}
use Rattle.quotient.specs.Points.{points_of}
use Rattle.grid_chained.specs.Shape.{shape_of, need_of}
use Rattle.grid_chained.specs.Classing.{Classes}

-- how the call ends, once the grid is checked and there is room: 6, 12, or the numbers of the m classes. `given` is the length of the result list.
pub data ClassesEnd (g : Grid) (numbers : List ℕ) (m given : ℕ) : Counted → List ℕ → Type 0 where
  -- more classes than there may be vertices
  many : most_vertices < m → ClassesEnd g numbers m given (Err TooManyVertices) []
  -- the result list is too short
  short : m ≤ most_vertices → given < points_of g → ClassesEnd g numbers m given (Err TooShort) []
  -- one number for each grid point
  written : m ≤ most_vertices → points_of g ≤ given → ClassesEnd g numbers m given (Ok m) numbers

-- the promise: r is what the call says, and a list with ' is what it holds at exit
pub record ClassesListed (g : Grid) (r : Counted) (to to' room room' : List ℕ) : Type 0 where
  -- the classes of the grid's points
  pub numbers : List ℕ
  pub count : ℕ
  pub classes : Classes g numbers count
  pub handed : List ℕ
  pub used : ℕ
  pub comes : Call Err [] 0 (shape_of g) (need_of g) (need_of g ≤ length room) (ClassesEnd g numbers count (length to)) r handed used
  pub result : to' ≡ onto handed to
  pub cleared : room' ≡ zeroed used room
