-- Signs of words, + where the number is even and - where it is odd; when they are coherent; and the signs that children have from their parents.
-- Assumes nothing.
use Rattle.std.specs.Prelude.{◌≡◌, ◌≢◌, List, ℕ, zero, suc, ◌+◌, ◌<◌, length, get_or}
use Rattle.multiindex.specs.Sort.{inversions}
use Rattle.refine_lattice.specs.Lattice.{Child}
use Rattle.lists.specs.Tables.{sum}
use Rattle.refine_lattice.specs.Complex.{Words, Names}
use Rattle.refine_lattice.specs.Conform.{Meet}

unfoldable pub Even : ℕ → Type 0
Even n = (h : ℕ) × (n ≡ h + h)

unfoldable pub Odd : ℕ → Type 0
Odd n = (h : ℕ) × (n ≡ suc (h + h))

-- words with signs
abbrev pub Signs : Type 1
Signs = List ℕ → ℕ → Type 0

-- A word has one sign. Where two words have a facet, against the vertex at place i of the one and at place j of the other, the sign of the one times (-1)^i
-- and that of the other times (-1)^j are opposite. In dimension 0 there are no facets.
pub record CoherentByPlace (d : ℕ) (S : Signs) : Type 0 where
  pub one : (k : List ℕ) (s r : ℕ) → S k s → S k r → Even (s + r)
  pub across : 0 < d → (k l : List ℕ) (s r : ℕ) → S k s → S l r → k ≢ l → (i j : ℕ) → i < suc d → j < suc d
      → Meet k (get_or k i 0) l (get_or l j 0) → Odd (s + i + (r + j))

-- 1 where m < n, and else 0
abbrev pub less : ℕ → ℕ → ℕ
less m zero = 0
less zero (suc n) = 1
less (suc m) (suc n) = less m n

-- the sign that a child's word has from its parent: the parent's, times that of the order in which the child's axes are stepped (+ where its pairs out of order are even)
pub record Handed (d R : ℕ) (K M : Words) (share : ℕ → ℕ → ℕ) (S : Signs) (m : List ℕ) (s : ℕ) : Type 0 where
  pub k : List ℕ
  pub c : List (List ℕ)
  pub in_K : K k
  pub in_M : M m
  pub child : Child d R c
  pub names : Names R share k c m
  pub sign : ℕ
  pub signed : S k sign
  pub is : s ≡ sign + inversions child.order

-- how many vertices of the word are below `v`: the place of `v` in the cell, its vertices sorted
abbrev pub rank : List ℕ → ℕ → ℕ
rank k v = sum (length k) (λ a. less (get_or k a 0) v)

-- The same for signs of cells, whose facets' signs go by the places in the sorted cell
pub record CoherentByRank (d : ℕ) (S : Signs) : Type 0 where
  pub one : (k : List ℕ) (s r : ℕ) → S k s → S k r → Even (s + r)
  pub across : 0 < d → (k l : List ℕ) (s r : ℕ) → S k s → S l r → k ≢ l → (i j : ℕ) → i < suc d → j < suc d
      → Meet k (get_or k i 0) l (get_or l j 0) → Odd (s + rank k (get_or k i 0) + (r + rank l (get_or l j 0)))

-- the sign that a child's cell has from its parent's: the parent's, times the signs of the parent's word, of the order of the axes, and of the child's word
pub record Directed (d R : ℕ) (K M : Words) (share : ℕ → ℕ → ℕ) (S : Signs) (m : List ℕ) (s : ℕ) : Type 0 where
  pub k : List ℕ
  pub c : List (List ℕ)
  pub in_K : K k
  pub in_M : M m
  pub child : Child d R c
  pub names : Names R share k c m
  pub sign : ℕ
  pub signed : S k sign
  pub is : s ≡ sign + (inversions k + inversions child.order + inversions m)
