-- Document 01: an order gives each cell one word. It agrees on a facet if its cells list the facet's vertices in one sequence. 16: order words not one for each cell,
-- no more. Assumes nothing.
use Rattle.std.specs.Prelude.{Bool, true, false, List, [], ◌∷◌, ◌≡◌, ℕ, suc, ◌%◌, ◌<◌, length, get_or}
use Rattle.lists.specs.Rows.{rows}
use Rattle.lists.specs.Words.{same_word, without}
use Rattle.multiindex.specs.Sort.{sort_word}
use Rattle.complex.specs.Facets.{cell_at, Mates}

-- one word where the test holds, else the other
unfoldable pub word_if : Bool → List ℕ → List ℕ → List ℕ
word_if true w v = w
word_if false w v = v

-- the first of the words that sorts to the cell; no vertex, where none does
unfoldable pub word_of : List (List ℕ) → List ℕ → List ℕ
word_of [] cell = []
word_of (w ∷ ows) cell = word_if (same_word (sort_word w) cell) w (word_of ows cell)

-- the order's words by cell
unfoldable pub by_cell : List (List ℕ) → List (List ℕ) → List (List ℕ)
by_cell ows [] = []
by_cell ows (cell ∷ cs) = word_of ows cell ∷ by_cell ows cs

-- the words by cell of a flat list of order words of cells of dimension d
abbrev pub words_by : ℕ → List (List ℕ) → List ℕ → List (List ℕ)
words_by d cs order = by_cell (rows (suc d) order) cs

-- the words are an order of the cells: one for each cell, no more
pub record IsOrder (cs ows : List (List ℕ)) : Type 0 where
  pub many : length ows ≡ length cs
  pub each : (c : ℕ) → c < length cs → sort_word (word_of ows (cell_at cs c)) ≡ cell_at cs c

-- a flat list is an order of cells of dimension d: it is cut into whole words, and they are one
pub record Orders (d : ℕ) (cs : List (List ℕ)) (order : List ℕ) : Type 0 where
  pub whole : length order % suc d ≡ 0
  pub words : IsOrder cs (rows (suc d) order)

-- the words ks, one for each cell, agree on every facet of two cells: without the vertex that each cell has not on the facet, they are one sequence
pub record AgreeOnFacets (d : ℕ) (cs ks : List (List ℕ)) : Type 0 where
  pub one : (c i c' i' : ℕ) → Mates d cs c i c' i' → without (get_or (cell_at cs c) i 0) (cell_at ks c) ≡ without (get_or (cell_at cs c') i' 0) (cell_at ks c')
