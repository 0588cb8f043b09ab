-- Inner contracts of the calls: the work on a grid that is taken, in a room of just the size needed. Assumes nothing.
use Rattle.refusal.specs.Says.{Counted, fine}
use Rattle.std.specs.Prelude.{List, ◌≡◌, ℕ, ◌<◌, ◌≤◌, length}
use Rattle.refusal.specs.Lent.{onto}
use Rattle.quotient.specs.declared.Grid.{Grid}
use Rattle.quotient.specs.Points.{points_of}
use Rattle.quotient.specs.Reduce.{no_vertex}
use Rattle.grid_chained.specs.Shape.{shape_of, need_of}
use Rattle.grid_chained.specs.Classing.{at, Classes}
use Rattle.grid_chained.specs.PromiseClasses.{ClassesEnd}

-- a list with a place for each point of a grid that is taken; and the room
pub record Pointwise (g : Grid) (points : List ℕ) : Type 0 where
  pub taken : shape_of g ≡ fine
  pub long : length points ≡ points_of g

pub record Working (g : Grid) (room : List ℕ) : Type 0 where
  pub taken : shape_of g ≡ fine
  pub long : length room ≡ need_of g

-- the end of the list calls, and the result list afterwards
pub record Worked (g : Grid) (r : Counted) (to to' : List ℕ) : Type 0 where
  pub numbers : List ℕ
  pub count : ℕ
  pub classes : Classes g numbers count
  pub handed : List ℕ
  pub ends : ClassesEnd g numbers count (length to) r handed
  pub result : to' ≡ onto handed to

-- the count of classes, and the number of point v's class: no class past the last point
pub record Looked (g : Grid) (v m class : ℕ) : Type 0 where
  pub numbers : List ℕ
  pub classes : Classes g numbers m
  pub inside : v < points_of g → class ≡ at numbers v
  pub past : points_of g ≤ v → class ≡ no_vertex
