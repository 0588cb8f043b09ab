-- What the loops that write the words ask of their lists, and what they hand on. Assumes nothing.
use Rattle.refusal.specs.Says.{fine}
use Rattle.std.specs.Prelude.{Bool, List, ◌≡◌, ℕ, suc, ◌+◌, ◌*◌, ◌/◌, ◌%◌, ◌≤◌, ◌<◌, eqb, length, get_or}
use Rattle.lists.specs.Tables.{tab}
use Rattle.quotient.specs.declared.Grid.{Grid}
use Rattle.quotient.specs.Fold.{product, some}
use Rattle.quotient.specs.Shape.{check_of, cell_count}
use Rattle.quotient.specs.Reduce.{vertex_of}
use Rattle.quotient.specs.Points.{points_of, point_of}
use Rattle.grid_words.specs.Cells.{boxes_of, box_at}
use Rattle.grid_words.specs.WorkNumbered.{each_box, corner_of}

-- the vertex of each grid point
abbrev pub vertex_table : Grid → List ℕ
vertex_table g = tab (points_of g) (vertex_of g)

-- how many corners the cells of a box have, and how far from the box's origin each lies: those of the first box
abbrev pub reach_long : Grid → ℕ
reach_long g = each_box g * suc g.d

abbrev pub reach_of : Grid → List ℕ
reach_of g = tab (reach_long g) (λ i. corner_of g (i / suc g.d) (i % suc g.d))

-- box after box, the vertices of the points that lie so far from the box's origin
abbrev pub moved_to : Grid → List ℕ → ℕ → ℕ
moved_to g reach i = vertex_of g (point_of g (box_at g (i / length reach)) + get_or reach (i % length reach) 0)

abbrev pub moved_by : Grid → List ℕ → List ℕ
moved_by g reach = tab (boxes_of g * length reach) (moved_to g reach)

-- how many corners a box has, and how far from the box's origin corner m lies: a step along axis k where binary digit k of m is 1
abbrev pub two : ℕ → ℕ
two k = 2

abbrev pub box_corners : Grid → ℕ
box_corners g = product two g.d

abbrev pub step_to : ℕ → ℕ → ℕ
step_to m k = m / product two k % 2

abbrev pub offset_of : Grid → ℕ → ℕ
offset_of g m = point_of g (step_to m)

-- a corner of box b is vertex v
abbrev pub touches_at : Grid → ℕ → ℕ → Bool
touches_at g b v = some (λ m. eqb (vertex_of g (point_of g (box_at g b) + offset_of g m)) v) (box_corners g)

pub record Moving (g : Grid) (table reach to : List ℕ) : Type 0 where
  pub taken : check_of g ≡ fine
  pub of_points : table ≡ vertex_table g
  pub some : 0 < length reach
  pub within : (b r : ℕ) → r < length reach → point_of g (box_at g b) + get_or reach r 0 < points_of g
  pub to_long : length to ≡ boxes_of g * length reach

pub record Writing (g : Grid) (words table : List ℕ) : Type 0 where
  pub taken : check_of g ≡ fine
  pub words_long : length words ≡ cell_count g * suc g.d
  pub table_long : points_of g ≤ length table
