-- The cells of a grid and their words (document 01, "Gluing"): for each box and each order of the axes, the origin and the corners met by stepping along the axes;
-- sorted before the words are read off. Assumes nothing.
use Rattle.std.specs.Prelude.{List, [], ◌∷◌, map, ℕ, suc, ◌+◌, ◌/◌, ◌%◌}
use Rattle.lists.specs.Rows.{flat}
use Rattle.lists.specs.Tables.{upto}
use Rattle.lists.specs.Words.{same}
use Rattle.multiindex.specs.Permutation.{gather, orders}
use Rattle.quotient.specs.declared.Grid.{Grid}
use Rattle.quotient.specs.Fold.{product}
use Rattle.quotient.specs.Shape.{cells_on}
use Rattle.quotient.specs.Reduce.{vertex_of}
use Rattle.quotient.specs.Points.{point_of}
use Rattle.complex.specs.Cells.{in_order}

-- how many boxes the grid has
abbrev pub boxes_of : Grid → ℕ
boxes_of g = product (cells_on g) g.d

-- coordinate k of the origin of box number b: axis 0 varies fastest
abbrev pub box_at : Grid → ℕ → ℕ → ℕ
box_at g b k = b / product (cells_on g) k % cells_on g k

-- coordinates after a step along axis a
abbrev pub step_along : ℕ → (ℕ → ℕ) → ℕ → ℕ
step_along a c k = c k + same a k

-- the point with the coordinates c, and the points met by stepping along the axes of an order
unfoldable pub met : Grid → (ℕ → ℕ) → List ℕ → List ℕ
met g c [] = point_of g c ∷ []
met g c (a ∷ order) = point_of g c ∷ met g (step_along a c) order

-- for each box and each order of the axes
abbrev pub chains : Grid → List (List ℕ)
chains g = gather (λ b. map (met g (box_at g b)) (orders g.d)) (upto (boxes_of g))

-- the cells before gluing, as words of grid points: sorted, in colex order
unfoldable pub grid_cells : Grid → List (List ℕ)
grid_cells g = in_order (suc g.d) (chains g)

-- their words after gluing, in the order of the sorted grid cells, and one after the other in a flat list
abbrev pub words_of : Grid → List (List ℕ)
words_of g = map (map (vertex_of g)) (grid_cells g)

abbrev pub flat_words : Grid → List ℕ
flat_words g = flat (words_of g)
