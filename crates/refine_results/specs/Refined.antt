-- Document 01, "Refinement": the refined cells, the children's words, parents and Jacobians, each by the refined cells in colex order. The vertices, the births with
-- their shares and the words in visiting order are refine_lattice's (specs/Refine). Assumes nothing.
use Rattle.std.specs.Prelude.{List, [], ◌∷◌, map, ℕ, zero, suc, ◌/◌, ◌^◌, ℤ, Float}
use Rattle.lists.specs.Words.{largest_of, found_at, same_word}
use Rattle.multiindex.specs.Sort.{sort_word}
use Rattle.complex.specs.Cells.{in_order, cells_of}
use Rattle.complex.specs.Facets.{cell_at}
use Rattle.refine_lattice.specs.Children.{gather}
use Rattle.refine_lattice.specs.Refine.{words, share}
use Rattle.ordering_words.specs.Order.{by_cell, words_by}
use Rattle.refine_jacobian.specs.Entries.{whole_of, float_of}

-- how many coarse vertices there are: no number below the largest is unused
abbrev pub coarse : List ℕ → ℕ
coarse ws = suc (largest_of ws)

-- the words refined by where an order is given: the caller's word for each cell. Where none is given they are the cells.
abbrev pub order_words : ℕ → List ℕ → List ℕ → List (List ℕ)
order_words d ws os = words_by d (cells_of d ws) os

-- which of the words is the first that sorts to the cell; past them, where none does
unfoldable pub visit_of : List (List ℕ) → List ℕ → ℕ
visit_of [] c = zero
visit_of (w ∷ ws) c = found_at (same_word (sort_word w) c) (visit_of ws c)

-- ---- n coarse vertices, the words ks refined by R

-- the refined cells: the children's words sorted, in colex order
abbrev pub refined_cells : ℕ → ℕ → ℕ → List (List ℕ) → List (List ℕ)
refined_cells d R n ks = in_order (suc d) (words d R n ks)

-- the children's words, by refined cell
abbrev pub refined_words : ℕ → ℕ → ℕ → List (List ℕ) → List (List ℕ)
refined_words d R n ks = by_cell (words d R n ks) (refined_cells d R n ks)

-- the parent of a refined cell, by its number: each has R ^ d children, and they are visited one parent after the other
abbrev pub parent_of : ℕ → ℕ → ℕ → List (List ℕ) → List ℕ → ℕ
parent_of d R n ks c = visit_of (words d R n ks) c / R ^ d

abbrev pub parents : ℕ → ℕ → ℕ → List (List ℕ) → List ℕ
parents d R n ks = map (parent_of d R n ks) (refined_cells d R n ks)

-- nine numbers for each refined cell: its Jacobian in the local coordinates of its parent, one of the cells cs, as whole numbers over R
abbrev pub wholes : ℕ → ℕ → ℕ → List (List ℕ) → List (List ℕ) → List ℤ
wholes d R n cs ks = gather (λ c. whole_of d (share d R n ks) (cell_at cs (parent_of d R n ks c)) c) (refined_cells d R n ks)

-- and as floats
abbrev pub jacobians : ℕ → ℕ → ℕ → List (List ℕ) → List (List ℕ) → List Float
jacobians d R n cs ks = gather (λ c. float_of d R (share d R n ks) (cell_at cs (parent_of d R n ks c)) c) (refined_cells d R n ks)
