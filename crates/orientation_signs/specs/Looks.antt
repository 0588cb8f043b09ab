-- How many facet looks the walk for coherent signs makes (document 02, K6): one for each facet of each cell taken off its stack, the lowest unsigned cell first, the last
-- pushed first taken, facets in the order of positions dropped from last to first, up to and with the look that meets a conflict. Assumes nothing.
use Rattle.std.specs.Prelude.{Bool, true, false, not, cond, ◌&&◌, List, [], ◌∷◌, ℕ, zero, suc, eqb, ltb, length}
use Rattle.lists.specs.Words.{same_word, first_where}
use Rattle.complex.specs.Facets.{cell_at, facet_at, slots}
use Rattle.multiindex.specs.Sign.{Sign, plus, minus, opposite, times, induced}

-- ---- across a facet
-- the position that cell c drops for the facet f; d + 1 where f is no facet of it
abbrev pub dropped_for : ℕ → List (List ℕ) → List ℕ → ℕ → ℕ
dropped_for d cs f c = first_where (λ i. same_word (facet_at (cell_at cs c) i) f) (suc d)

-- the cell other than c that has the facet f; the number of cells where there is none
abbrev pub cell_beyond : ℕ → List (List ℕ) → ℕ → List ℕ → ℕ
cell_beyond d cs c f = first_where (λ c'. not (eqb c' c) && ltb (dropped_for d cs f c') (suc d)) (length cs)

-- the sign beyond a facet: the products of cell sign and induced sign are opposite
abbrev pub sign_beyond : Sign → ℕ → ℕ → Sign
sign_beyond s i i' = times (opposite (times s (induced i))) (induced i')

-- ---- the walk
-- a cell's mark: unsigned, or its sign
pub data Mark : Type 0 where
  unsigned : Mark
  signed : Sign → Mark

-- the marks with the sign s given to cell c
abbrev pub given : (ℕ → Mark) → ℕ → Sign → ℕ → Mark
given marks c s x = cond (eqb x c) (signed s) (marks x)

-- the sign of a cell on the stack, which has one
abbrev pub sign_in : Mark → Sign
sign_in unsigned = plus
sign_in (signed s) = s

-- where the walk stands: the marks of the cells, the stack with the last pushed first, and the looks so far; or at a conflict after so many looks
pub data Walk : Type 0 where
  at : (ℕ → Mark) → List ℕ → ℕ → Walk
  conflict : ℕ → Walk

abbrev pub looks_in : Walk → ℕ
looks_in (at marks stack n) = n
looks_in (conflict n) = n

abbrev pub same_sign : Sign → Sign → Bool
same_sign plus plus = true
same_sign plus minus = false
same_sign minus plus = false
same_sign minus minus = true

-- a look that finds cell c, where the sign s is due: an unsigned cell gets it and is pushed; another sign is a conflict
abbrev pub finds : ℕ → Sign → Mark → (ℕ → Mark) → List ℕ → ℕ → Walk
finds c s unsigned marks stack n = at (given marks c s) (c ∷ stack) n
finds c s (signed t) marks stack n = cond (same_sign t s) (at marks stack n) (conflict n)

-- one look, from cell c across the facet f, which drops position i
abbrev pub look_across : ℕ → List (List ℕ) → ℕ → ℕ → List ℕ → (ℕ → Mark) → List ℕ → ℕ → Walk
look_across d cs c i f marks stack n =
    cond (ltb (cell_beyond d cs c f) (length cs))
    (finds (cell_beyond d cs c f) (sign_beyond (sign_in (marks c)) i (dropped_for d cs f (cell_beyond d cs c f))) (marks (cell_beyond d cs c f)) marks stack n)
    (at marks stack n)

abbrev pub look : ℕ → List (List ℕ) → ℕ → ℕ → Walk → Walk
look d cs c i (at marks stack n) = look_across d cs c i (facet_at (cell_at cs c) i) marks stack (suc n)
look d cs c i (conflict n) = conflict n

-- looks across the facets of cell c, from the one without position i - 1 down to the one without position 0
abbrev pub looks_below : ℕ → List (List ℕ) → ℕ → ℕ → Walk → Walk
looks_below d cs c zero w = w
looks_below d cs c (suc i) w = looks_below d cs c i (look d cs c i w)

-- cells taken off the stack, the last pushed first, until it is empty; a piece has at most m cells
abbrev pub emptied : ℕ → List (List ℕ) → ℕ → Walk → Walk
emptied d cs zero w = w
emptied d cs (suc m) (at marks [] n) = at marks [] n
emptied d cs (suc m) (at marks (c ∷ stack) n) = emptied d cs m (looks_below d cs c (slots d) (at marks stack n))
emptied d cs (suc m) (conflict n) = conflict n

-- a piece begins at cell c where that is unsigned
abbrev pub begins_at : ℕ → List (List ℕ) → ℕ → Mark → (ℕ → Mark) → List ℕ → ℕ → Walk
begins_at d cs c unsigned marks stack n = emptied d cs (length cs) (at (given marks c plus) (c ∷ []) n)
begins_at d cs c (signed s) marks stack n = at marks stack n

abbrev pub begins : ℕ → List (List ℕ) → ℕ → Walk → Walk
begins d cs c (at marks stack n) = begins_at d cs c (marks c) marks stack n
begins d cs c (conflict n) = conflict n

-- the walk over the pieces that begin below cell c
abbrev pub walked : ℕ → List (List ℕ) → ℕ → Walk
walked d cs zero = at (λ c. unsigned) [] 0
walked d cs (suc c) = begins d cs c (walked d cs c)

-- the facet looks of the whole walk
abbrev pub looks_of : ℕ → List (List ℕ) → ℕ
looks_of d cs = looks_in (walked d cs (length cs))
