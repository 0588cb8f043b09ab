-- The facet table: for each facet its lower cell, the position dropped there, its other cell and the position dropped there. Assumes nothing.
use Rattle.std.specs.Prelude.{List, [], ◌∷◌, ◌++◌, ℕ, ◌-◌, ◌/◌, ◌%◌, drop}
use Rattle.lists.specs.Words.{none}
use Rattle.complex.specs.Facets.{slots}
use Rattle.complex.specs.Skeleton.{facets_of, rows_with}

-- the cell of the first of the rows and the position dropped there; 4,294,967,295 twice where there is no row
abbrev pub side_of : ℕ → List ℕ → List ℕ
side_of d [] = none ∷ none ∷ []
side_of d (x ∷ rest) = (x / slots d) ∷ (d - x % slots d) ∷ []

-- the four numbers of a facet
abbrev pub sides_of : ℕ → List (List ℕ) → List ℕ → List ℕ
sides_of d cs f = side_of d (rows_with d cs f) ++ side_of d (drop 1 (rows_with d cs f))

unfoldable pub each_sides : ℕ → List (List ℕ) → List (List ℕ) → List ℕ
each_sides d cs [] = []
each_sides d cs (f ∷ fs) = sides_of d cs f ++ each_sides d cs fs

-- the four numbers of each facet, one facet after the other
abbrev pub table_of : ℕ → List (List ℕ) → List ℕ
table_of d cs = each_sides d cs (facets_of d cs)
