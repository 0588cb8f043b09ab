-- Refinement of a complex that is given by its words, with a number for each point; and when two such complexes are one and the same.
-- Assumes nothing.
use Rattle.std.specs.Prelude.{◌≡◌, ◌⊎◌, List, [], ◌∷◌, map, ℕ, zero, suc, ◌+◌, ◌*◌, ◌≤◌, ◌<◌, length, get_or}
use Rattle.lists.specs.Words.{same}
use Rattle.lists.specs.Tables.{sum}
use Rattle.refine_lattice.specs.Lattice.{weights, dot, Child}

-- a set of words
abbrev pub Words : Type 1
Words = List ℕ → Type 0

-- how often `v` stands in `k`
abbrev pub occurrences : List ℕ → ℕ → ℕ
occurrences [] v = 0
occurrences (x ∷ k) v = same v x + occurrences k v

abbrev pub keep : ℕ → ℕ → List ℕ → List ℕ
keep zero x r = r
keep (suc n) x r = x ∷ r

-- the vertices of `k` that stand in `l` too, in the sequence of `k`
abbrev pub common : List ℕ → List ℕ → List ℕ
common [] l = []
common (x ∷ k) l = keep (occurrences l x) x (common k l)

-- the weight of vertex `v` in the point whose weights over the word `k` are `ws`
abbrev pub weigh : List ℕ → List ℕ → ℕ → ℕ
weigh k ws v = dot ws (map (same v) k)

-- `m` numbers the points `c` of a child of the cell with word `k`: the number's share of a vertex is the point's weight there
pub record Names (R : ℕ) (share : ℕ → ℕ → ℕ) (k : List ℕ) (c : List (List ℕ)) (m : List ℕ) : Type 0 where
  pub long : length m ≡ length c
  pub shares : (i : ℕ) → i < length c → (v : ℕ) → share (get_or m i 0) v ≡ weigh k (weights R (get_or c i [])) v

-- words of d + 1 vertices, all below n, none twice in a word
pub record Complex (d n : ℕ) (K : Words) : Type 0 where
  pub long : (k : List ℕ) → K k → length k ≡ suc d
  pub plain : (k : List ℕ) → K k → (v : ℕ) → occurrences k v ≤ 1
  pub below : (k : List ℕ) → K k → (v : ℕ) → 0 < occurrences k v → v < n

-- different vertices have different shares
unfoldable pub Apart : ℕ → Words → (ℕ → ℕ → ℕ) → Type 0
Apart d M share =
    (m m' : List ℕ) → M m → M m' → (i i' : ℕ) → i < suc d → i' < suc d
    → ((v : ℕ) → share (get_or m i 0) v ≡ share (get_or m' i' 0) v) → get_or m i 0 ≡ get_or m' i' 0

-- `M` is `K` refined by R along its words, and `share` tells what its vertices are: each word of `M` is that of a child, each child has its word,
-- and there is one number for one point
pub record Refined (d R : ℕ) (K M : Words) (share : ℕ → ℕ → ℕ) : Type 0 where
  pub each : (m : List ℕ) → M m → (k : List ℕ) × (c : List (List ℕ)) × K k × Child d R c × Names R share k c m
  pub all : (k : List ℕ) (c : List (List ℕ)) → K k → Child d R c → (m : List ℕ) × M m × Names R share k c m
  pub one : Apart d M share

-- the share of the vertex `v` in `x`, whose shares of the n vertices between are `inner`, and theirs `outer`
abbrev pub through : ℕ → (ℕ → ℕ → ℕ) → (ℕ → ℕ → ℕ) → ℕ → ℕ → ℕ
through n outer inner x v = sum n (λ m. inner x m * outer m v)

-- each word of the one is a word of the other, its vertices told by their shares
unfoldable pub Within : ℕ → Words → Words → (ℕ → ℕ → ℕ) → (ℕ → ℕ → ℕ) → Type 0
Within d T C share share' =
    (w : List ℕ) → T w → (y : List ℕ) × C y × ((i : ℕ) → i < suc d → (v : ℕ) → share (get_or w i 0) v ≡ share' (get_or y i 0) v)

-- the same complex, up to the numbers of its vertices: the same words, where a vertex is told by its shares, and different vertices have different shares
pub record Alike (d : ℕ) (T C : Words) (share share' : ℕ → ℕ → ℕ) : Type 0 where
  pub forth : Within d T C share share'
  pub back : Within d C T share' share
  pub apart : Apart d T share
  pub apart' : Apart d C share'

-- two words list the vertices that they share in one sequence, or share at most two
unfoldable pub Agree : List ℕ → List ℕ → Type 0
Agree k l = (common k l ≡ common l k) ⊎ (length (common k l) ≤ 2)

-- every two words list the vertices that they share in one sequence
unfoldable pub AgreeOnFaces : Words → Type 0
AgreeOnFaces K = (k l : List ℕ) → K k → K l → common k l ≡ common l k

-- and so at least where they share d vertices, a facet, or all d + 1, which makes them one word
unfoldable pub WordsAgreeOnFacets : ℕ → Words → Type 0
WordsAgreeOnFacets d K = (k l : List ℕ) → K k → K l → d ≤ length (common k l) → common k l ≡ common l k

-- the vertices of `k` rise
abbrev pub Rises : List ℕ → Type 0
Rises [] = Unit {0}
Rises (x ∷ k) = ((v : ℕ) → 0 < occurrences k v → x < v) × Rises k
