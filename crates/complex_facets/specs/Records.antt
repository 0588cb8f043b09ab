-- One record a facet (document 02, K8): its lower cell and the induced sign there, its other cell and the induced sign there, and whether the words of its cells agree. Assumes nothing.
use Rattle.std.specs.Prelude.{Bool, true, false, List, [], ◌∷◌, ◌++◌, ℕ, ◌-◌, ◌*◌, ◌/◌, ◌%◌, get_or, drop}
use Rattle.refusal.specs.declared.Room.{Room}
use Rattle.multiindex.specs.Sign.{Sign, plus, minus, induced}
use Rattle.lists.specs.Words.{same_word, without, none}
use Rattle.complex.specs.Facets.{cell_at, slots}
use Rattle.complex.specs.Skeleton.{facets_of, rows_with}

-- a sign as a mark: 1 for +, 2 for -
abbrev pub sign_mark : Sign → ℕ
sign_mark plus = 1
sign_mark minus = 2

-- the cell of the first of the rows and the induced sign there; 4,294,967,295 and 0 where there is no row
abbrev pub signed_of : ℕ → List ℕ → List ℕ
signed_of d [] = none ∷ 0 ∷ []
signed_of d (x ∷ rest) = (x / slots d) ∷ sign_mark (induced (d - x % slots d)) ∷ []

-- the word of row x's cell, without the vertex that the row drops; ks has one word for each cell
abbrev pub kept_of : ℕ → List (List ℕ) → List (List ℕ) → ℕ → List ℕ
kept_of d cs ks x = without (get_or (cell_at cs (x / slots d)) (d - x % slots d) 0) (cell_at ks (x / slots d))

-- 1 where the test holds, else 0
abbrev pub one_if : Bool → ℕ
one_if true = 1
one_if false = 0

-- whether the words of the rows' cells list the facet's vertices in one sequence; a facet in one cell has one
abbrev pub agree_of : ℕ → List (List ℕ) → List (List ℕ) → List ℕ → ℕ
agree_of d cs ks [] = 1
agree_of d cs ks (x ∷ []) = 1
agree_of d cs ks (x ∷ y ∷ rest) = one_if (same_word (kept_of d cs ks x) (kept_of d cs ks y))

-- the five numbers of a facet
abbrev pub record_of : ℕ → List (List ℕ) → List (List ℕ) → List ℕ → List ℕ
record_of d cs ks f = signed_of d (rows_with d cs f) ++ (signed_of d (drop 1 (rows_with d cs f)) ++ (agree_of d cs ks (rows_with d cs f) ∷ []))

unfoldable pub each_record : ℕ → List (List ℕ) → List (List ℕ) → List (List ℕ) → List ℕ
each_record d cs ks [] = []
each_record d cs ks (f ∷ fs) = record_of d cs ks f ++ each_record d cs ks fs

-- the five numbers of each facet, one facet after the other; where no order is given the cells are their own words
abbrev pub records_of : ℕ → List (List ℕ) → List (List ℕ) → List ℕ
records_of d cs ks = each_record d cs ks (facets_of d cs)

-- what a call that reads the records needs of its working lists, where n is the number of corners of the words: there are no more facets than corners
abbrev pub record_need : ℕ → Room
record_need n = record { keys = n * 5; rows = n; spare = n; counts = n }
