-- How many numbers an index has: each cell stands once for each of its vertices. Assumes nothing.
use mathlib.Core.Bool.{Bool, true, false, ◌||◌}
use mathlib.Core.List.{List, [], ◌∷◌}
use mathlib.Core.Path.{◌≡◌, refl, sym, ap, ◌∙◌}
use Prim.Native.Nat.{ℕ, zero, suc, ◌+◌, ◌*◌, ◌<◌, ◌≤◌}
use native.Mathlib.Nat.{suc-mul}
use native.Mathlib.Decide.{ℕ_discrete}
use native.Mathlib.Omega.{arith}
use lib.Dec.{eqb}
use lib.ListN.{length, length-append}
use borrow.Author.Tests.{eq-eqb, ne_eqb}
use Rattle.lists.specs.Rows.{flat}
use Rattle.lists.specs.Tables.{tab, sum}
use Rattle.lists.specs.Words.{among}
use Rattle.lists.proofs.Tables.{tab-more}
use Rattle.lists.proofs.Flat.{flat_append}
use Rattle.lists.proofs.Sums.{sum-add, sum-zero}
use Rattle.complex.specs.Skeleton.{numbers, only_if}

-- one where the test holds
abbrev one : Bool → ℕ
one true = 1
one false = 0

only_one : (t : Bool) (n : ℕ) → length (only_if t n) ≡ one t
only_one true n = refl
only_one false n = refl

-- how many numbers below n pass, as a sum
as-sum : (p : ℕ → Bool) (n : ℕ) → length (numbers p n) ≡ sum n (λ i. one (p i))
unfolding numbers
as-sum p zero = refl
as-sum p (suc n) = omega (arith, length-append (numbers p n) (only_if (p n) n), only_one (p n) n, as-sum p n)

-- the numbers of a list that are below n are no more than the list is long
one-or : (a b : Bool) → one (a || b) ≤ one a + one b
one-or true b = omega arith
one-or false b = omega arith

hit-once : (x n : ℕ) → sum n (λ v. one (eqb x v)) ≤ 1
hit-once x zero = omega arith
hit-once x (suc n) =
    elim (ℕ_discrete x n) [
      | yes e ↦ omega (arith, none x n (omega arith), ap one (eq-eqb x n e))
      | no e ↦ omega (arith, hit-once x n, ap one (ne_eqb x n e))
    ]
  where
    none : (x n : ℕ) → n ≤ x → sum n (λ v. one (eqb x v)) ≡ 0
    none x zero h = refl
    none x (suc n) h = omega (arith, none x n (omega arith), ap one (ne_eqb x n (λ (e : x ≡ n). omega arith)))

more-most : (n : ℕ) (f g : ℕ → ℕ) → ((i : ℕ) → f i ≤ g i) → sum n f ≤ sum n g
more-most zero f g h = omega arith
more-most (suc n) f g h = omega (arith, h n, more-most n f g h)

among-most : (w : List ℕ) (n : ℕ) → sum n (λ v. one (among v w)) ≤ length w
unfolding among
among-most [] n = omega (arith, sum-zero n)
among-most (x ∷ w) n =
    omega (
      arith,
      more-most n (λ v. one (eqb x v || among v w)) (λ v. one (eqb x v) + one (among v w)) (λ v. one-or (eqb x v) (among v w)),
      sum-add n (λ v. one (eqb x v)) (λ v. one (among v w)),
      hit-once x n,
      among-most w n,
    )

-- ---- a table counted by rows and by columns
swap : (p : ℕ → ℕ → Bool) (n m : ℕ) → sum n (λ v. length (numbers (p v) m)) ≡ sum m (λ c. sum n (λ v. one (p v c)))
swap p zero m = sym (sum-zero m)
swap p (suc n) m = omega (arith, swap p n m, as-sum (p n) m, sum-add m (λ c. sum n (λ v. one (p v c))) (λ c. one (p n c)))

flat-sum : (n : ℕ) (f : ℕ → List ℕ) → length (flat (tab n f)) ≡ sum n (λ v. length (f v))
flat-sum zero f = refl
flat-sum (suc n) f =
    ap (λ (l : List (List ℕ)). length (flat l)) (tab-more n f)
    ∙ ap length (flat_append (tab n f) (f n ∷ []))
    ∙ length-append (flat (tab n f)) (flat (f n ∷ []))
    ∙ omega (arith, flat-sum n f, length-append (f n) [])

each-most : (m k : ℕ) (f : ℕ → ℕ) → ((i : ℕ) → i < m → f i ≤ k) → sum m f ≤ m * k
each-most zero k f h = omega arith
each-most (suc m) k f h = omega (arith, h m (omega arith), each-most m k f (λ i l. h i (omega arith)), suc-mul m k)

-- m lists of at most k numbers: how often the numbers below n stand in them
pub index-most : (at : ℕ → List ℕ) (n m k : ℕ) → ((c : ℕ) → c < m → length (at c) ≤ k) → length (flat (tab n (λ v. numbers (λ c. among v (at c)) m))) ≤ m * k
index-most at n m k h =
    omega (
      arith,
      flat-sum n (λ v. numbers (λ c. among v (at c)) m),
      swap (λ v c. among v (at c)) n m,
      each-most m k (λ c. sum n (λ v. one (among v (at c)))) (λ c l. let a : length (at c) ≤ k = h c l in omega (arith, among-most (at c) n)),
    )
