-- Document 02, K13: the boundary operator as a list of entries, and its coefficients. Assumes nothing.
use Rattle.std.specs.Prelude.{Bool, true, false, ◌&&◌, List, [], ◌∷◌, ◌++◌, map, ◌≡◌, ℕ, zero, suc, eqb, length, get_or, ℤ, pos, ◌+ℤ◌, ◌*ℤ◌}
use Rattle.lists.specs.Words.{first_where, same_word}
use Rattle.multiindex.specs.Sign.{induced, sign_number}
use Rattle.complex.specs.Facets.{facet_at}
use Rattle.complex_faces.specs.Faces.{faces_of}

-- the face is the coface without one position, which gives the sign: 1 or -1
pub record Entry : Type 0 where
  pub sign : ℤ
  pub face : ℕ
  pub coface : ℕ

-- the number of the word u in a list of words: their count, where it is none of them
abbrev pub number_of : List (List ℕ) → List ℕ → ℕ
number_of ws u = first_where (λ j. same_word (get_or ws j []) u) (length ws)

-- coface number c is w: the entry of its position i
abbrev pub entry_at : List (List ℕ) → ℕ → List ℕ → ℕ → Entry
entry_at faces c w i = record { sign = sign_number (induced i); face = number_of faces (facet_at w i); coface = c }

-- those of its first n positions, rising
unfoldable pub entries_at : List (List ℕ) → ℕ → List ℕ → ℕ → List Entry
entries_at faces c w zero = []
entries_at faces c w (suc n) = entries_at faces c w n ++ (entry_at faces c w n ∷ [])

-- the entries of the first n cofaces, by rising coface, then by dropped position
unfoldable pub entries_below : List (List ℕ) → List (List ℕ) → ℕ → List Entry
entries_below faces cofaces zero = []
entries_below faces cofaces (suc n) = entries_below faces cofaces n ++ entries_at faces n (get_or cofaces n []) (length (get_or cofaces n []))

-- the boundary operator from the faces of dimension k to those of dimension k - 1: none below dimension 1
unfoldable pub entries_of : List (List ℕ) → ℕ → List Entry
entries_of cs zero = []
entries_of cs (suc k) = entries_below (faces_of cs k) (faces_of cs (suc k)) (length (faces_of cs (suc k)))

-- the number where the test holds, and else 0
abbrev pub or_zero : Bool → ℤ → ℤ
or_zero true x = x
or_zero false x = pos 0

-- the operator's coefficient in row f and column c: the sum of the signs of the entries there
unfoldable pub coef : List Entry → ℕ → ℕ → ℤ
coef [] f c = pos 0
coef (e ∷ es) f c = or_zero (eqb e.face f && eqb e.coface c) e.sign +ℤ coef es f c

-- f 0 + .. + f (n - 1)
abbrev pub sum_of : ℕ → (ℕ → ℤ) → ℤ
sum_of zero f = pos 0
sum_of (suc n) f = sum_of n f +ℤ f n

-- row f and column c of the product of two operators, where n is the number of faces between them
abbrev pub product_at : ℕ → List Entry → List Entry → ℕ → ℕ → ℤ
product_at n es es' f c = sum_of n (λ m. coef es f m *ℤ coef es' m c)

-- the boundary of a boundary is zero in every entry
abbrev pub BoundaryTwice : List (List ℕ) → Type 0
BoundaryTwice cs = (k f c : ℕ) → product_at (length (faces_of cs (suc k))) (entries_of cs (suc k)) (entries_of cs (suc (suc k))) f c ≡ pos 0

-- ---- the entries as three lists
abbrev pub signs_in : List Entry → List ℤ
signs_in es = map (λ (e : Entry). e.sign) es

abbrev pub faces_in : List Entry → List ℕ
faces_in es = map (λ (e : Entry). e.face) es

abbrev pub cofaces_in : List Entry → List ℕ
cofaces_in es = map (λ (e : Entry). e.coface) es

-- three lists read together
unfoldable pub entries_from : List ℤ → List ℕ → List ℕ → List Entry
entries_from [] fs cs = []
entries_from (s ∷ ss) [] cs = []
entries_from (s ∷ ss) (f ∷ fs) [] = []
entries_from (s ∷ ss) (f ∷ fs) (c ∷ cs) = record { sign = s; face = f; coface = c } ∷ entries_from ss fs cs
