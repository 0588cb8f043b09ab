-- Document 02, K13: the cells at each vertex. Assumes nothing.
use Rattle.std.specs.Prelude.{List, [], ◌∷◌, ℕ, ◌+◌, length}
use Rattle.lists.specs.Tables.{tab}
use Rattle.lists.specs.Words.{among, largest_of}
use Rattle.complex.specs.Cells.{cells_of}
use Rattle.complex.specs.Facets.{cell_at}
use Rattle.complex.specs.Skeleton.{numbers}

-- the cells that have the vertex v, rising
abbrev pub cells_at : List (List ℕ) → ℕ → List ℕ
cells_at cs v = numbers (λ c. among v (cell_at cs c)) (length cs)

-- the index: for each of the vertices 0, .. n - 1 its cells
abbrev pub index_of : List (List ℕ) → ℕ → List (List ℕ)
index_of cs n = tab n (cells_at cs)

-- where each of the lists starts when they stand one after the other, and, last, where they end
unfoldable pub starts_from : ℕ → List (List ℕ) → List ℕ
starts_from at [] = at ∷ []
starts_from at (l ∷ ls) = at ∷ starts_from (at + length l) ls

abbrev pub starts_of : List (List ℕ) → List ℕ
starts_of ls = starts_from 0 ls

-- the index of a word list: its vertices are the numbers up to the largest
abbrev pub word_index : ℕ → List ℕ → List (List ℕ)
word_index d ws = index_of (cells_of d ws) (largest_of ws + 1)
