-- The visits of edges (document 01, "Lengths"): the cells of the grid in sorted order, and of each cell the pairs of its corners. Assumes nothing.
use Rattle.std.specs.Prelude.{Bool, ◌&&◌, List, [], ◌∷◌, map, ◌≡◌, ℕ, ◌+◌, ◌-◌, ◌*◌, ◌/◌, ◌%◌, ◌<◌, min, max, eqb, Float, length, get_or}
use Rattle.lists.specs.Tables.{upto}
use Rattle.grid_sides.specs.declared.Sides.{Sides}
use Rattle.grid_sides.specs.declared.Steps.{Steps}
use Rattle.grid_sides.specs.Counts.{side_of}
use Rattle.grid_sides.specs.Lengths.{spacing_of, length_sq}
use Rattle.complex.specs.Cells.{in_order}
use Rattle.quotient.specs.declared.Grid.{Grid}
use Rattle.quotient.specs.Shape.{cells_on, cell_count}
use Rattle.quotient.specs.Reduce.{coord_at, vertex_of}
use Rattle.grid_words.specs.Cells.{grid_cells}

-- the edges of a cell: edge e joins its corners first_end e and second_end e. Those of a cell of dimension d are the first d * (d + 1) / 2
abbrev pub first_end : ℕ → ℕ
first_end e = get_or (0 ∷ 0 ∷ 1 ∷ 0 ∷ 1 ∷ 2 ∷ []) e 0

abbrev pub second_end : ℕ → ℕ
second_end e = get_or (1 ∷ 2 ∷ 2 ∷ 3 ∷ 3 ∷ 3 ∷ []) e 0

abbrev pub edges_each : ℕ → ℕ
edges_each d = d * (d + 1) / 2

-- how many visits there are: each edge of each cell
abbrev pub visits_of : Grid → ℕ
visits_of g = cell_count g * edges_each g.d

-- the grid points between which visit r measures
abbrev pub corner_at : Grid → ℕ → ℕ → ℕ
corner_at g x j = get_or (get_or (grid_cells g) x []) j 0

abbrev pub from_at : Grid → ℕ → ℕ
from_at g r = corner_at g (r / edges_each g.d) (first_end (r % edges_each g.d))

abbrev pub to_at : Grid → ℕ → ℕ
to_at g r = corner_at g (r / edges_each g.d) (second_end (r % edges_each g.d))

-- the spacing of each axis
abbrev pub spacings_of : Grid → Sides
spacings_of g =
    record {
      first = spacing_of (side_of g.sides 0) (cells_on g 0);
      second = spacing_of (side_of g.sides 1) (cells_on g 1);
      third = spacing_of (side_of g.sides 2) (cells_on g 2);
    }

-- the steps along the axes from point p to point q
abbrev pub steps_of : Grid → ℕ → ℕ → Steps
steps_of g p q = record { first = coord_at g q 0 - coord_at g p 0; second = coord_at g q 1 - coord_at g p 1; third = coord_at g q 2 - coord_at g p 2 }

-- the squared length that visit r measures
abbrev pub square_at : Grid → ℕ → Float
square_at g r = length_sq (spacings_of g) (steps_of g (from_at g r) (to_at g r)) g.d

-- whether the ends a and b are p and q, in either order
abbrev pub same_ends : ℕ → ℕ → ℕ → ℕ → Bool
same_ends a b p q = eqb (min a b) (min p q) && eqb (max a b) (max p q)

-- visit r is one of the glued edge between vertices a and b
abbrev pub visits_edge : Grid → ℕ → ℕ → ℕ → Bool
visits_edge g a b r = same_ends a b (vertex_of g (from_at g r)) (vertex_of g (to_at g r))

-- the glued edges, colex
abbrev pub edges_of : Grid → List (List ℕ)
edges_of g = in_order 2 (map (λ r. vertex_of g (from_at g r) ∷ vertex_of g (to_at g r) ∷ []) (upto (visits_of g)))

-- a and b are the ends of a glued edge
pub record EdgeAmong (g : Grid) (a b : ℕ) : Type 0 where
  pub number : ℕ
  pub within : number < length (edges_of g)
  pub ends : get_or (edges_of g) number [] ≡ min a b ∷ max a b ∷ []
