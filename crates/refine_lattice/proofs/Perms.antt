-- A map of the numbers below d to themselves that takes no value twice has an inverse; and the rank of a key among d different keys is such a map.
-- Assumes nothing.
use mathlib.Core.Path.{◌≡◌, refl, sym, ap}
use mathlib.Core.Logic.{◌≢◌, ◌⊎◌, inl, inr, ⊎_elim}
use Prim.Native.Nat.{ℕ, zero, suc, ◌-◌, ◌≤◌, ◌<◌}
use native.Mathlib.Nat.{not-suc-le-zero}
use native.Mathlib.Decide.{ℕ_discrete, dec_lt}
use native.Mathlib.Omega.{arith}
use Rattle.refine_lattice.specs.Lattice.{Perm}
use Rattle.lists.specs.Tables.{sum}
use Rattle.refine_lattice.proofs.Tab.{step, step-le, step-yes, step-no}

-- `r` is `x`, but `v` where `x` is `d`
Turned : ℕ → ℕ → ℕ → ℕ → Type 0
Turned d v x r = ((x ≡ d) × (r ≡ v)) ⊎ ((x ≢ d) × (r ≡ x))

turned : (d v x : ℕ) → (r : ℕ) × Turned d v x r
unfolding Turned
turned d v x = elim (ℕ_discrete x d) [ yes e ↦ (v, inl (e, refl)) | no n ↦ (x, inr (n, refl)) ]

module _ (d : ℕ) (f : ℕ → ℕ) (p : Perm (suc d) f) where
  less : ℕ → ℕ
  less i = (turned d (f d) (f i)).0

  less-is : (i : ℕ) → Turned d (f d) (f i) (less i)
  unfolding less
  less-is i = (turned d (f d) (f i)).1

  less-perm : Perm d less
  unfolding Turned
  less-perm = record {
    below = λ i h. ⊎_elim (λ c. omega (arith, p.apart i d h (omega arith), p.below i (omega arith), p.below d (omega arith)))
        (λ c. omega (arith, p.below i (omega arith))) (less-is i);
    apart = λ i j h k. ⊎_elim
        (λ a. ⊎_elim (λ b. omega (arith, p.apart i j h (omega arith))) (λ b. omega (arith, p.apart j d k (omega arith))) (less-is j))
        (λ a. ⊎_elim (λ b. omega (arith, p.apart i d (omega arith) (omega arith))) (λ b. omega (arith, p.apart i j h (omega arith))) (less-is j))
        (less-is i);
  }

module _ (d : ℕ) (f : ℕ → ℕ) (p : Perm (suc d) f) (y : ℕ) (h : y < suc d) (n : y ≢ f d) where
  sought : ℕ
  sought = (turned d (f d) y).0

  sought-is : Turned d (f d) y sought
  unfolding sought
  sought-is = (turned d (f d) y).1

  sought-below : sought < d
  unfolding Turned
  sought-below = ⊎_elim (λ a. omega (arith, p.below d (omega arith))) (λ a. omega arith) sought-is

  found : (x : ℕ) → x < d → less d f p x ≡ sought → f x ≡ y
  unfolding Turned
  found x k e =
      ⊎_elim
      (λ a. ⊎_elim (λ b. omega arith) (λ b. omega (arith, p.apart x d k (omega arith))) (less-is d f p x))
      (λ a. ⊎_elim (λ b. omega arith) (λ b. omega arith) (less-is d f p x))
      sought-is

-- each number below d is a value
pub onto : (d : ℕ) (f : ℕ → ℕ) → Perm d f → (y : ℕ) → y < d → (x : ℕ) × (x < d) × (f x ≡ y)
onto zero f p y h = absurd (not-suc-le-zero h)
onto (suc d) f p y h =
    elim (ℕ_discrete y (f d)) [
      | yes e ↦ (d, omega arith, sym e)
      | no n ↦
          let r = onto d (less d f p) (less-perm d f p) (sought d f p y h n) (sought-below d f p y h n) in
          (r.0, omega arith, found d f p y h n r.0 r.1 r.2)
    ]

-- no two different places have one value
pub one_place : {d : ℕ} {t : ℕ → ℕ} → Perm d t → (i j : ℕ) → i < d → j < d → t i ≡ t j → i ≡ j
one_place {d} {t} p i j h k e =
    elim (dec_lt i j) [
      | yes l ↦ absurd (p.apart i j l k e)
      | no l ↦ elim (dec_lt j i) [ yes m ↦ absurd (p.apart j i m h (sym e)) | no m ↦ omega arith ]
    ]

-- `g` undoes `t` below d
pub record Undoes (d : ℕ) (t g : ℕ → ℕ) : Type 0 where
  pub perm : Perm d g
  pub right : (i : ℕ) → i < d → t (g i) ≡ i
  pub left : (i : ℕ) → i < d → g (t i) ≡ i

module _ (d : ℕ) (t : ℕ → ℕ) (p : Perm d t) where
  back_at : (y : ℕ) → (x : ℕ) × (y < d → (x < d) × (t x ≡ y))
  back_at y =
      elim (dec_lt y d) [ yes h ↦ ((onto d t p y h).0, λ k. ((onto d t p y h).1, (onto d t p y h).2)) | no n ↦ (0, λ k. absurd (n k)) ]

  pub back : ℕ → ℕ
  back y = (back_at y).0

  back_below : (y : ℕ) → y < d → back y < d
  unfolding back
  back_below y h = ((back_at y).1 h).0

  back-right : (y : ℕ) → y < d → t (back y) ≡ y
  unfolding back
  back-right y h = ((back_at y).1 h).1

  pub undoes : Undoes d t back
  undoes = record {
    perm = record {
      below = back_below;
      apart = λ i j h k e. omega (arith, ap t e, back-right i (omega arith), back-right j k);
    };
    right = back-right;
    left = λ i h. one_place p (back (t i)) i (back_below (t i) (p.below i h)) h (back-right (t i) (p.below i h));
  }

pub sum-le : (n : ℕ) (f g : ℕ → ℕ) → ((i : ℕ) → i < n → f i ≤ g i) → sum n f ≤ sum n g
sum-le zero f g h = omega arith
sum-le (suc n) f g h = omega (arith, h n (omega arith), sum-le n f g (λ i k. h i (omega arith)))

pub sum_lt : (n : ℕ) (f g : ℕ → ℕ) → ((i : ℕ) → i < n → f i ≤ g i) → (k : ℕ) → k < n → f k < g k → sum n f < sum n g
sum_lt zero f g h k l m = absurd (not-suc-le-zero l)
sum_lt (suc n) f g h k l m =
    elim (dec_lt k n) [
      | yes a ↦ omega (arith, h n (omega arith), sum_lt n f g (λ i b. h i (omega arith)) k a m)
      | no a ↦
          let e : k ≡ n = omega arith in
          omega (arith, rw e at m, sum-le n f g (λ i b. h i (omega arith)))
    ]

sum_one : (n : ℕ) → sum n (λ i. 1) ≡ n
sum_one zero = refl
sum_one (suc n) = omega (arith, sum_one n)

pub step-mono : (s t k : ℕ) → s ≤ t → step t k ≤ step s k
step-mono s t k h = elim (dec_lt t k) [ yes a ↦ omega (arith, step-le t k, step-yes s k (omega arith)) | no a ↦ omega (arith, step-no t k (omega arith)) ]

-- how many of d keys are above that of `j`
pub rank : ℕ → (ℕ → ℕ) → ℕ → ℕ
rank d r j = sum d (λ i. step (r j) (r i))

module _ (d : ℕ) (r : ℕ → ℕ) where
  pub rank_lt : (i j : ℕ) → i < d → r j < r i → rank d r i < rank d r j
  unfolding rank
  rank_lt i j h l =
      sum_lt d (λ k. step (r i) (r k)) (λ k. step (r j) (r k)) (λ k m. step-mono (r j) (r i) (r k) (omega arith)) i h
      (omega (arith, step-no (r i) (r i) (omega arith), step-yes (r j) (r i) l))

  pub rank-le : (i j : ℕ) → r j ≤ r i → rank d r i ≤ rank d r j
  unfolding rank
  rank-le i j l = sum-le d (λ k. step (r i) (r k)) (λ k. step (r j) (r k)) (λ k m. step-mono (r j) (r i) (r k) l)

  rank_below : (j : ℕ) → j < d → rank d r j < d
  unfolding rank
  rank_below j h =
      omega (
        arith,
        sum_lt d (λ k. step (r j) (r k)) (λ k. 1) (λ k m. step-le (r j) (r k)) j h (omega (arith, step-no (r j) (r j) (omega arith))),
        sum_one d,
      )

  pub rank-perm : ((i j : ℕ) → i < j → j < d → r i ≢ r j) → Perm d (rank d r)
  rank-perm n = record {
    below = rank_below;
    apart = λ i j h k.
        elim (dec_lt (r i) (r j)) [
          | yes a ↦ omega (arith, rank_lt j i k a)
          | no a ↦ omega (arith, rank_lt i j (omega arith) (omega (arith, n i j h k)))
        ];
  }
