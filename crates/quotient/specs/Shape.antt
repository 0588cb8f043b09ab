-- A grid with glued axes, and when it is refused (document 01, "Numbers that bound the work"). Assumes nothing.
use Rattle.refusal.specs.declared.Refusal.TheVariants.{BadDimension, BadReflection, BadSide, ShortAxis, TooManyCells, TooManyVertices}
use Rattle.quotient.specs.Says.{Parity}
use Rattle.refusal.specs.Says.{Answer, Counted, fine}
use Rattle.std.specs.Prelude.{Err, Ok, ℕ, ◌+◌, ◌*◌, Bool, true, false, not, cond, ◌&&◌, ◌||◌, leb, ltb, eqb, List, [], ◌∷◌, get_or}
use Rattle.lists.specs.Words.{first_where}
use Rattle.quotient.specs.declared.Glue.{Glue}
use Rattle.quotient.specs.declared.Glue.TheVariants.{Open, Periodic, Twisted}
use Rattle.quotient.specs.declared.Axis.{Axis}
use Rattle.quotient.specs.declared.Grid.{Grid}
use Rattle.refusal.specs.Refuse.{refuse}
use Rattle.refusal.specs.Limits.{most_dimension, most_cells, most_vertices}
use Rattle.grid_sides.specs.Counts.{first_bad}
use Rattle.quotient.specs.Fold.{product, factorial, member, some, odd_count}

-- no axis: what stands past the last
abbrev pub no_axis : Axis
no_axis = record { count = 0; glue = Open }

-- the axes in their order
abbrev pub all_axes : Grid → List Axis
all_axes g = g.first ∷ g.second ∷ g.third ∷ []

-- axis i of the grid
unfoldable pub axis_of : Grid → ℕ → Axis
axis_of g i = get_or (all_axes g) i no_axis

abbrev pub closed_of : Glue → Bool
closed_of Open = false
closed_of Periodic = true
closed_of (Twisted m) = true

-- the set of axes that a gluing reflects, as a mask
abbrev pub mask_of : Glue → ℕ
mask_of Open = 0
mask_of Periodic = 0
mask_of (Twisted m) = m

-- cells on axis i, whether it is closed, the set that it reflects
abbrev pub cells_on : Grid → ℕ → ℕ
cells_on g i = (axis_of g i).count

abbrev pub closed_at : Grid → ℕ → Bool
closed_at g i = closed_of (axis_of g i).glue

abbrev pub mask_at : Grid → ℕ → ℕ
mask_at g i = mask_of (axis_of g i).glue

-- j is in the set of the mask m, and is axis i itself or outside a grid of dimension d
abbrev pub bad_member : ℕ → ℕ → ℕ → ℕ → Bool
bad_member d i m j = member m j && (eqb j i || leb d j)

-- the set of the mask m, at axis i of a grid of dimension d, has i itself or an axis outside the grid. A mask is a byte, so its axes are below 8
unfoldable pub bad_set : ℕ → ℕ → ℕ → Bool
bad_set d i m = some (bad_member d i m) 8

-- the fewest cells: 3 on a closed axis, 1 on an open one
abbrev pub closed_floor : ℕ
closed_floor = 3

abbrev pub open_floor : ℕ
open_floor = 1

abbrev pub floor_of : Glue → ℕ
floor_of g = cond (closed_of g) closed_floor open_floor

-- too few cells: under 3 on a closed axis, under 1 on an open one
abbrev pub too_few : Axis → Bool
too_few a = ltb a.count (floor_of a.glue)

-- points on an axis after gluing: n on a closed axis of n cells, n + 1 on an open one
abbrev pub glued_points : Axis → ℕ
glued_points a = cond (closed_of a.glue) a.count (a.count + 1)

-- points on axis i of the glued shape, and of the grid
abbrev pub glued_on : Grid → ℕ → ℕ
glued_on g i = glued_points (axis_of g i)

abbrev pub points_on : Grid → ℕ → ℕ
points_on g i = cells_on g i + 1

-- how many cells, and how many vertices after gluing
abbrev pub cell_count : Grid → ℕ
cell_count g = factorial g.d * product (cells_on g) g.d

abbrev pub vertices_of : Grid → ℕ
vertices_of g = product (glued_on g) g.d

-- axis i reflects itself or an axis outside the grid; it has too few cells
abbrev pub reflects_badly : Grid → ℕ → Bool
reflects_badly g i = bad_set g.d i (mask_at g i)

abbrev pub falls_short : Grid → ℕ → Bool
falls_short g i = too_few (axis_of g i)

-- the least axis that refusal 9 names, and that 8 names; d if there is none
abbrev pub bad_reflection : Grid → ℕ
bad_reflection g = first_where (reflects_badly g) g.d

abbrev pub short_axis : Grid → ℕ
short_axis g = first_where (falls_short g) g.d

-- the table's order from 9 on, where so many cells and vertices are taken: 9, 8, 3, 6
abbrev pub shape_within : ℕ → ℕ → Grid → Answer
shape_within cells vertices g =
    refuse (ltb (bad_reflection g) g.d) (BadReflection (bad_reflection g))
    (refuse (ltb (short_axis g) g.d) (ShortAxis (short_axis g))
    (refuse (ltb cells (cell_count g)) TooManyCells
    (refuse (ltb vertices (vertices_of g)) TooManyVertices
    fine)))

-- the table's order for an entry without sides, where so many dimensions, cells and vertices are taken: 1, 9, 8, 3, 6
abbrev pub check_within : ℕ → ℕ → ℕ → Grid → Answer
check_within dimension cells vertices g =
    refuse (ltb g.d 1) BadDimension
    (refuse (ltb dimension g.d) BadDimension
    (shape_within cells vertices g))

-- both within document 01's limits
abbrev pub shape_check : Grid → Answer
shape_check g = shape_within most_cells most_vertices g

unfoldable pub check_of : Grid → Answer
check_of g = check_within most_dimension most_cells most_vertices g

-- and for one with sides: 1, 10, 9, 8, 3, 6
unfoldable pub sides_check_of : Grid → Answer
sides_check_of g =
    refuse (ltb g.d 1) BadDimension
    (refuse (ltb most_dimension g.d) BadDimension
    (refuse (ltb (first_bad g.sides g.d) g.d) (BadSide (first_bad g.sides g.d))
    (shape_check g)))

-- ---- the number of vertices

-- a refusal stands as it is, and where there is none the answer is x
abbrev pub counted_after : Answer → Counted → Counted
counted_after (Ok _) x = x
counted_after (Err why) x = Err why

unfoldable pub nvertices_of : Grid → Counted
nvertices_of g = counted_after (check_of g) (Ok (vertices_of g))

-- ---- orientation

-- the set of the mask m has an odd number of axes
unfoldable pub odd_set : ℕ → Bool
odd_set m = odd_count (member m) 8

abbrev pub reflects_odd : Grid → ℕ → Bool
reflects_odd g i = odd_set (mask_at g i)

-- a refusal stands as it is, and where there is none the answer is x
abbrev pub parity_after : Answer → Parity → Parity
parity_after (Ok _) x = x
parity_after (Err why) x = Err why

-- whether each axis below d reflects an even number of axes
unfoldable pub parity_of : Grid → Parity
parity_of g = parity_after (check_of g) (Ok (not (some (reflects_odd g) g.d)))
