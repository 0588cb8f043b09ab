-- Document 01: a cell is its word sorted; cells stand in colex order (compare last vertices, then the ones before) without duplicates. Assumes nothing.
use Rattle.std.specs.Prelude.{Bool, true, false, List, [], ◌∷◌, ℕ, zero, suc, ◌+◌, get_or, ltb, eqb}
use Rattle.multiindex.specs.Sort.{sort_word}
use Rattle.lists.specs.Rows.{rows}

-- whether v comes before w: the last numbers decide, and where they are equal the ones before; only the first n numbers count
unfoldable pub decides : Bool → Bool → Bool → Bool
decides true same rest = true
decides false true rest = rest
decides false false rest = false

unfoldable pub comes_before : ℕ → List ℕ → List ℕ → Bool
comes_before zero v w = false
comes_before (suc n) v w = decides (ltb (get_or v n 0) (get_or w n 0)) (eqb (get_or v n 0) (get_or w n 0)) (comes_before n v w)

-- the cell w put before the first cell that it comes before; nothing new, where it is there already
unfoldable pub placed : Bool → Bool → List ℕ → List ℕ → List (List ℕ) → List (List ℕ) → List (List ℕ)
placed true after w c cs rest = w ∷ c ∷ cs
placed false true w c cs rest = c ∷ rest
placed false false w c cs rest = c ∷ cs

unfoldable pub place : ℕ → List ℕ → List (List ℕ) → List (List ℕ)
place n w [] = w ∷ []
place n w (c ∷ cs) = placed (comes_before n w c) (comes_before n c w) w c cs (place n w cs)

-- the words, each sorted, in order and without duplicates
unfoldable pub in_order : ℕ → List (List ℕ) → List (List ℕ)
in_order n [] = []
in_order n (w ∷ ws) = place n (sort_word w) (in_order n ws)

unfoldable pub cells_of : ℕ → List ℕ → List (List ℕ)
cells_of d ws = in_order (d + 1) (rows (d + 1) ws)
