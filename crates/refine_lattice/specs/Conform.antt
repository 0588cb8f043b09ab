-- A complex that refinement takes: every vertex used, no two words over the same vertices, no facet in three words. Assumes nothing.
use Rattle.std.specs.Prelude.{◌≡◌, ◌⊎◌, List, [], ◌∷◌, ℕ, zero, suc, ◌-◌, ◌≤◌, ◌<◌}
use Rattle.lists.specs.Words.{same}
use Rattle.refine_lattice.specs.Complex.{Words, occurrences, Complex, AgreeOnFaces, WordsAgreeOnFacets}

-- how often `v` stands in `k` where one `x` is left out: the vertices of the facet of `k` against `x`
abbrev pub rest : List ℕ → ℕ → ℕ → ℕ
rest k x v = occurrences k v - same v x

-- the facet of `k` against `x` and that of `l` against `y` have the same vertices
unfoldable pub Meet : List ℕ → ℕ → List ℕ → ℕ → Type 0
Meet k x l y = (v : ℕ) → rest k x v ≡ rest l y v

-- no two words have the same vertices
unfoldable pub Distinct : Words → Type 0
Distinct K = (k l : List ℕ) → K k → K l → ((v : ℕ) → occurrences k v ≡ occurrences l v) → k ≡ l

-- of three words with one facet two are the same: no facet lies in three words; in dimension 0 there are no facets
unfoldable pub Thin : ℕ → Words → Type 0
Thin d K =
    0 < d → (k l m : List ℕ) → K k → K l → K m → (x y z : ℕ) → 0 < occurrences k x → 0 < occurrences l y → 0 < occurrences m z
    → Meet k x l y → Meet k x m z → (k ≡ l) ⊎ ((k ≡ m) ⊎ (l ≡ m))

-- each of n vertices stands in a word
unfoldable pub Used : ℕ → Words → Type 0
Used n K = (v : ℕ) → v < n → (k : List ℕ) × K k × (0 < occurrences k v)

-- a complex of n vertices that refinement takes
pub record Sound (d n : ℕ) (K : Words) : Type 0 where
  pub complex : Complex d n K
  pub used : Used n K
  pub distinct : Distinct K
  pub thin : Thin d K

-- what demand 3 asks of the words: up to dimension 3 that they agree on facets, else that they agree on all shared faces
unfoldable pub Facewise : ℕ → Words → Type 0
Facewise d K = ((d ≤ 3) × WordsAgreeOnFacets d K) ⊎ AgreeOnFaces K

-- the word with the vertex at place i left out
abbrev pub omit : List ℕ → ℕ → List ℕ
omit [] i = []
omit (x ∷ k) zero = k
omit (x ∷ k) (suc i) = x ∷ omit k i
