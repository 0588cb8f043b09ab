-- Document 01: the edges, the facets and the border of a list of cells, each in colex order without duplicates. Assumes nothing.
use Rattle.std.specs.Prelude.{Bool, true, false, List, [], ◌∷◌, ◌++◌, ℕ, zero, suc, ◌-◌, ◌*◌, ◌/◌, ◌%◌, eqb, length}
use Rattle.lists.specs.Words.{same_word}
use Rattle.lists.specs.Tables.{tab}
use Rattle.complex.specs.Cells.{place}
use Rattle.complex.specs.Facets.{cell_at, facet_at, slots}

-- words of n numbers in colex order, without duplicates
unfoldable pub in_colex : ℕ → List (List ℕ) → List (List ℕ)
in_colex n [] = []
in_colex n (w ∷ ws) = place n w (in_colex n ws)

-- v with each of the numbers
abbrev pub pairs_with : ℕ → List ℕ → List (List ℕ)
pairs_with v [] = []
pairs_with v (u ∷ us) = (v ∷ u ∷ []) ∷ pairs_with v us

-- each number of a word with each that stands after it
abbrev pub pairs_of : List ℕ → List (List ℕ)
pairs_of [] = []
pairs_of (v ∷ w) = pairs_with v w ++ pairs_of w

abbrev pub all_pairs : List (List ℕ) → List (List ℕ)
all_pairs [] = []
all_pairs (w ∷ cs) = pairs_of w ++ all_pairs cs

-- the edges of the cells: each two vertices of a cell, the lower first
abbrev pub edges_of : List (List ℕ) → List (List ℕ)
edges_of cs = in_colex 2 (all_pairs cs)

-- a cell has k = slots d facet rows: row x is cell x / k without position d - x % k
abbrev pub facet_row_of : ℕ → List (List ℕ) → ℕ → List ℕ
facet_row_of d cs x = facet_at (cell_at cs (x / slots d)) (d - x % slots d)

-- the facets of the cells
abbrev pub facets_of : ℕ → List (List ℕ) → List (List ℕ)
facets_of d cs = in_colex d (tab (length cs * slots d) (facet_row_of d cs))

-- the numbers below n that pass the test, rising
abbrev pub only_if : Bool → ℕ → List ℕ
only_if true x = x ∷ []
only_if false x = []

unfoldable pub numbers : (ℕ → Bool) → ℕ → List ℕ
numbers p zero = []
numbers p (suc n) = numbers p n ++ only_if (p n) n

-- the rows that are the facet f: the cells that it lies in, the lower first, each with the position dropped
abbrev pub rows_with : ℕ → List (List ℕ) → List ℕ → List ℕ
rows_with d cs f = numbers (λ x. same_word (facet_row_of d cs x) f) (length cs * slots d)

-- those of the words that pass the test
abbrev pub keep_if : Bool → List ℕ → List (List ℕ) → List (List ℕ)
keep_if true w ws = w ∷ ws
keep_if false w ws = ws

unfoldable pub keep : (List ℕ → Bool) → List (List ℕ) → List (List ℕ)
keep p [] = []
keep p (w ∷ ws) = keep_if (p w) w (keep p ws)

-- the border: the facets that lie in one cell
abbrev pub border_of : ℕ → List (List ℕ) → List (List ℕ)
border_of d cs = keep (λ f. eqb (length (rows_with d cs f)) 1) (facets_of d cs)
