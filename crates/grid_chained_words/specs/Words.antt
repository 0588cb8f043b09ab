-- The words of a grid's cells under any numbering of its points. Assumes nothing.
use Rattle.std.specs.Prelude.{List, map, ℕ}
use Rattle.lists.specs.Rows.{flat}
use Rattle.quotient.specs.declared.Grid.{Grid}
use Rattle.grid_words.specs.Cells.{grid_cells}

-- the words where point p has the number c p, in the order of the sorted grid cells, and one after the other in a flat list
abbrev pub words_by : Grid → (ℕ → ℕ) → List (List ℕ)
words_by g c = map (map c) (grid_cells g)

abbrev pub flat_by : Grid → (ℕ → ℕ) → List ℕ
flat_by g c = flat (words_by g c)
