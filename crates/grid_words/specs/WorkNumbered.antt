-- The cells of a grid by number: what the inner calls say. proofs/Listed ties them to the sorted cells. Assumes nothing.
use Rattle.std.specs.Prelude.{List, ℕ, ◌-◌, ◌/◌, ◌%◌, length, get_or}
use Rattle.multiindex.specs.Permutation.{orders, order_of}
use Rattle.quotient.specs.declared.Grid.{Grid}
use Rattle.quotient.specs.Fold.{product}
use Rattle.quotient.specs.Shape.{points_on}
use Rattle.grid_words.specs.Cells.{box_at, met}

-- how much a point's number grows with a step along axis a
abbrev pub stride_of : Grid → ℕ → ℕ
stride_of g a = product (points_on g) a

-- how many cells a box has, and the box and the order of cell number x: inside a box the orders stand from the last to the first
abbrev pub each_box : Grid → ℕ
each_box g = length (orders g.d)

abbrev pub order_at : Grid → ℕ → List ℕ
order_at g x = order_of g.d (each_box g - 1 - x % each_box g)

abbrev pub cell_no : Grid → ℕ → List ℕ
cell_no g x = met g (box_at g (x / each_box g)) (order_at g x)

-- corner j of cell x
abbrev pub corner_of : Grid → ℕ → ℕ → ℕ
corner_of g x j = get_or (cell_no g x) j 0
