-- The tables of the axis orders hold what the definition says: one computed test, and the law that reads it. Assumes nothing.
use mathlib.Core.Path.{◌≡◌, refl}
use mathlib.Core.Bool.{Bool, true, false, ◌&&◌}
use mathlib.Core.List.{List, [], ◌∷◌}
use Prim.Native.Nat.{ℕ, zero, suc, ◌+◌, ◌*◌, ◌-◌, ◌≤◌, ◌<◌, suc-le-suc}
use native.Mathlib.Nat.{not-suc-le-zero, le_of_suc-le-suc}
use native.Mathlib.Omega.{arith}
use lib.Dec.{eqb, ltb}
use lib.ListN.{length, get_or}
use borrow.Author.Tests.{eqb-true, ltb-true}
use Rattle.refusal.specs.Limits.{most_dimension}
use Rattle.multiindex.specs.Permutation.{orders, order_of, order_table}

abbrev pub all_below : ℕ → (ℕ → Bool) → Bool
all_below zero t = true
all_below (suc n) t = t zero && all_below n (λ i. t (suc i))

pub first_of : (a b : Bool) → (a && b) ≡ true → a ≡ true
first_of true b h = refl
first_of false b h = h

pub second-of : (a b : Bool) → (a && b) ≡ true → b ≡ true
second-of true b h = h
second-of false true h = refl
second-of false false h = h

-- a test that passes below n passes at each number below n
pub at-below : (n : ℕ) (t : ℕ → Bool) → all_below n t ≡ true → (i : ℕ) → i < n → t i ≡ true
at-below zero t h i l = absurd (not-suc-le-zero l)
at-below (suc n) t h zero l = first_of (t zero) (all_below n (λ i. t (suc i))) h
at-below (suc n) t h (suc i) l = at-below n (λ i. t (suc i)) (second-of (t zero) (all_below n (λ i. t (suc i))) h) i (le_of_suc-le-suc l)

-- the constants of `src/permutation.rt`
abbrev pub table : List ℕ
table = 2 ∷ 1 ∷ 0 ∷ 1 ∷ 2 ∷ 0 ∷ 2 ∷ 0 ∷ 1 ∷ 0 ∷ 2 ∷ 1 ∷ 1 ∷ 0 ∷ 2 ∷ 0 ∷ 1 ∷ 2 ∷ []

abbrev pub counts : List ℕ
counts = 1 ∷ 1 ∷ 2 ∷ 6 ∷ []

-- how many orders there are at most, and how many numbers the table has
abbrev pub most_orders : ℕ
most_orders = 6

abbrev pub order_numbers : ℕ
order_numbers = 18

pub table_is : table ≡ order_table
table_is = refl

pub count_at : (d : ℕ) → d ≤ most_dimension → get_or counts d 0 ≡ length (orders d)
count_at d h =
    eqb-true (get_or counts d 0) (length (orders d)) (at-below (suc most_dimension) (λ d. eqb (get_or counts d 0) (length (orders d))) refl d (suc-le-suc h))

pub count_most : (d : ℕ) → d ≤ most_dimension → length (orders d) < suc most_orders
count_most d h =
    ltb-true (length (orders d)) (suc most_orders) (at-below (suc most_dimension) (λ d. ltb (length (orders d)) (suc most_orders)) refl d (suc-le-suc h))

pub axis-at : (d k i : ℕ) → d ≤ most_dimension → k < length (orders d) → i < d → get_or table (k * most_dimension + i) 0 ≡ get_or (order_of d k) i 0 + (most_dimension - d)
axis-at d k i h l m =
    eqb-true (get_or table (k * most_dimension + i) 0) (get_or (order_of d k) i 0 + (most_dimension - d))
    (at-below d (right d k)
    (at-below (length (orders d)) (λ k. all_below d (right d k))
    (at-below (suc most_dimension) (λ d. all_below (length (orders d)) (λ k. all_below d (right d k))) refl d (suc-le-suc h)) k l)
    i m)
  where
    right : ℕ → ℕ → ℕ → Bool
    right d k i = eqb (get_or table (k * most_dimension + i) 0) (get_or (order_of d k) i 0 + (most_dimension - d))

-- a place of an order lies in the table
pub place-within : (d k i : ℕ) → d ≤ most_dimension → k < length (orders d) → i < d → k * most_dimension + i < order_numbers
place-within d k i h l m = omega (arith, count_most d h)

pub small : (i : ℕ) → i < order_numbers → get_or table i 0 < most_dimension
small i h = ltb-true (get_or table i 0) most_dimension (at-below order_numbers (λ i. ltb (get_or table i 0) most_dimension) refl i h)

pub count-some : (d : ℕ) → d ≤ most_dimension → 0 < length (orders d)
count-some d h = ltb-true 0 (length (orders d)) (at-below (suc most_dimension) (λ d. ltb 0 (length (orders d))) refl d (suc-le-suc h))
