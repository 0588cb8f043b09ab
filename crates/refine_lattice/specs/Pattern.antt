-- The pattern of a refined cell: for each corner of each child, in the order in which they are visited, its weights over the places of the cell's word.
-- Assumes nothing.
use Rattle.std.specs.Prelude.{List, map, ℕ}
use Rattle.refine_lattice.specs.Lattice.{weights}
use Rattle.refine_lattice.specs.Children.{gather, children}

-- the rows of weights of a cell of dimension d refined by R: d + 1 corners for each child, d + 1 weights in each row
abbrev pub pattern_of : ℕ → ℕ → List (List ℕ)
pattern_of d R = gather (map (weights R)) (children d R)
