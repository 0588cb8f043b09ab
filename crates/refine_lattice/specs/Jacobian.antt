-- Whole-number matrices, what a determinant is, and the Jacobian of a child. Assumes nothing.
use Rattle.std.specs.Prelude.{◌≡◌, List, ℕ, zero, suc, ◌+◌, ◌*◌, ◌-◌, ◌<◌, length, get_or, ℤ, pos, neg_ℤ, ◌+ℤ◌, ◌-ℤ◌, ◌*ℤ◌}
use Rattle.refine_lattice.specs.Lattice.{Child}
use Rattle.lists.specs.Words.{same}
use Rattle.refine_lattice.specs.Complex.{Words, occurrences, Names, Rises}
use Rattle.refine_lattice.specs.Signs.{Signs}

-- column c, row r
abbrev pub Matrix : Type 0
Matrix = ℕ → ℕ → ℤ

-- the matrix with another column at c
abbrev pub put : ℕ → (ℕ → ℤ) → Matrix → Matrix
put zero f A zero = f
put zero f A (suc j) = A (suc j)
put (suc c) f A zero = A zero
put (suc c) f A (suc j) = put c f (λ i. A (suc i)) j

-- `det` is a determinant of d columns of d entries: 1 at the identity, unchanged where a column is added to the one beside it,
-- negated where a column is negated. It reads no other entries.
pub record Determinant (d : ℕ) (det : Matrix → ℤ) : Type 0 where
  pub reads : (A B : Matrix) → ((c r : ℕ) → c < d → r < d → A c r ≡ B c r) → det A ≡ det B
  pub left : (A : Matrix) (c : ℕ) → suc c < d → det (put c (λ r. A c r +ℤ A (suc c) r) A) ≡ det A
  pub right : (A : Matrix) (c : ℕ) → suc c < d → det (put (suc c) (λ r. A (suc c) r +ℤ A c r) A) ≡ det A
  pub turn : (A : Matrix) (c : ℕ) → c < d → det (put c (λ r. neg_ℤ (A c r)) A) ≡ neg_ℤ (det A)
  pub unit : det (λ c r. pos (same c r)) ≡ pos 1

-- n times negated
abbrev pub flips : ℕ → ℤ → ℤ
flips zero v = v
flips (suc n) v = neg_ℤ (flips n v)

-- `l` is the word's vertices sorted
pub record Sorted (k l : List ℕ) : Type 0 where
  pub long : length l ≡ length k
  pub rises : Rises l
  pub counts : (v : ℕ) → occurrences k v ≡ occurrences l v

-- the Jacobian of a child with the sorted vertices `m`, over R, in the local coordinates of a parent with the sorted vertices `k`: column c is corner c + 1
-- minus corner 0, and row r the share of the parent's vertex r + 1
abbrev pub jacobian : (ℕ → ℕ → ℕ) → List ℕ → List ℕ → Matrix
jacobian share k m c r = pos (share (get_or m (suc c) 0) (get_or k (suc r) 0)) -ℤ pos (share (get_or m 0 0) (get_or k (suc r) 0))

-- the numbers other than q: 0, .., q - 1, q + 1, ..
abbrev pub beside : ℕ → ℕ → ℕ
beside zero a = suc a
beside (suc q) zero = zero
beside (suc q) (suc a) = suc (beside q a)

abbrev pub total : ℕ → (ℕ → ℤ) → ℤ
total zero f = pos 0
total (suc n) f = total n f +ℤ f n

-- the determinant by its first row: the empty one is 1
abbrev pub laplace : ℕ → Matrix → ℤ
laplace zero A = pos 1
laplace (suc n) A = total (suc n) (λ c. flips c (A c 0 *ℤ laplace n (λ j r. A (beside c j) (suc r))))

-- the sign that a child's cell has from its parent's: the parent's times the determinant of the child's Jacobian
pub record Descends (d R : ℕ) (K M : Words) (share : ℕ → ℕ → ℕ) (S : Signs) (m : List ℕ) (s : ℕ) : Type 0 where
  pub k : List ℕ
  pub c : List (List ℕ)
  pub in_K : K k
  pub in_M : M m
  pub child : Child d R c
  pub names : Names R share k c m
  pub parent : List ℕ
  pub parent_is : Sorted k parent
  pub cell : List ℕ
  pub cell_is : Sorted m cell
  pub sign : ℕ
  pub signed : S k sign
  pub is : flips s (pos 1) ≡ flips sign (pos 1) *ℤ laplace d (jacobian share parent cell)
