-- Sums over the numbers below n. Assumes nothing.
use mathlib.Core.Path.{◌≡◌, refl, sym, ap, ◌∙◌, subst}
use Prim.Native.Nat.{ℕ, zero, suc, ◌+◌, ◌*◌, ◌-◌, ◌≤◌, ◌<◌}
use native.Mathlib.Nat.{not-suc-le-zero, add-zero, add-suc}
use native.Mathlib.Decide.{dec_lt}
use native.Mathlib.Omega.{arith}
use Rattle.lists.specs.Words.{same}
use Rattle.lists.specs.Tables.{sum}
use Rattle.lists.proofs.Words.{same-yes, same-no}

pub sum-ext : (n : ℕ) (f g : ℕ → ℕ) → ((i : ℕ) → i < n → f i ≡ g i) → sum n f ≡ sum n g
sum-ext zero f g h = refl
sum-ext (suc n) f g h = omega (arith, h n (omega arith), sum-ext n f g (λ i k. h i (omega arith)))

pub sum-add : (n : ℕ) (f g : ℕ → ℕ) → sum n (λ i. f i + g i) ≡ sum n f + sum n g
sum-add zero f g = refl
sum-add (suc n) f g = omega (arith, sum-add n f g)

pub sum-scale : (n c : ℕ) (f : ℕ → ℕ) → sum n (λ i. c * f i) ≡ c * sum n f
sum-scale zero c f = omega arith
sum-scale (suc n) c f = omega (arith, sum-scale n c f)

pub sum-zero : (n : ℕ) → sum n (λ i. 0) ≡ 0
sum-zero zero = refl
sum-zero (suc n) = omega (arith, sum-zero n)

pub sum-const : (n c : ℕ) → sum n (λ i. c) ≡ n * c
sum-const zero c = omega arith
sum-const (suc n) c = omega (arith, sum-const n c)

pub sum-swap : (n m : ℕ) (f : ℕ → ℕ → ℕ) → sum n (λ i. sum m (λ j. f i j)) ≡ sum m (λ j. sum n (λ i. f i j))
sum-swap zero m f = sym (sum-zero m)
sum-swap (suc n) m f = omega (arith, sum-swap n m f, sum-add m (λ j. sum n (λ i. f i j)) (λ j. f n j))

sum-miss : (n x : ℕ) (f : ℕ → ℕ) → n ≤ x → sum n (λ i. same i x * f i) ≡ 0
sum-miss zero x f h = refl
sum-miss (suc n) x f h =
    let e : same n x * f n ≡ 0 = ap (λ (y : ℕ). y * f n) (same-no n x (omega arith)) ∙ omega arith in
    omega (arith, sum-miss n x f (omega arith))

pub sum-pick : (n x : ℕ) (f : ℕ → ℕ) → x < n → sum n (λ i. same i x * f i) ≡ f x
sum-pick zero x f h = absurd (not-suc-le-zero h)
sum-pick (suc n) x f h =
    elim (dec_lt x n) [
      | yes l ↦
          let e : same n x * f n ≡ 0 = ap (λ (y : ℕ). y * f n) (same-no n x (omega arith)) ∙ omega arith in
          omega (arith, sum-pick n x f l)
      | no l ↦
          let q : n ≡ x = omega arith in
          let e : same n x * f n ≡ f n = ap (λ (y : ℕ). y * f n) (same-yes n x q) ∙ omega arith in
          omega (arith, sum-miss n x f (omega arith), ap f q)
    ]

pub sum-front : (n : ℕ) (f : ℕ → ℕ) → sum (suc n) f ≡ f 0 + sum n (λ i. f (suc i))
sum-front zero f = omega arith
sum-front (suc n) f = omega (arith, sum-front n f)

pub sum-reverse : (n : ℕ) (f : ℕ → ℕ) → sum n f ≡ sum n (λ i. f (n - suc i))
sum-reverse zero f = refl
sum-reverse (suc n) f =
    omega (
      arith,
      sum-reverse n f,
      sum-front n (λ i. f (suc n - suc i)),
      ap f {x = suc n - 1} {y = n} (omega arith),
      sum-ext n (λ i. f (suc n - suc (suc i))) (λ i. f (n - suc i)) (λ i h. ap f (omega arith)),
    )

sum-tail : (x r c : ℕ) (f : ℕ → ℕ) → ((i : ℕ) → i < x + r → x ≤ i → f i ≡ c) → sum (x + r) f ≡ sum x f + r * c
sum-tail x zero c f e = rw add-zero (omega arith)
sum-tail x (suc r) c f e = rw (add-suc x r) (omega (arith, sum-tail x r c f (λ i h l. e i (omega arith) l), e (x + r) (omega arith) (omega arith)))

-- a sum whose terms from `x` on are all `c`
pub sum-split : (x n c : ℕ) (f : ℕ → ℕ) → x ≤ n → ((i : ℕ) → i < n → x ≤ i → f i ≡ c) → sum n f ≡ sum x f + (n - x) * c
sum-split x n c f h e =
    let q : x + (n - x) ≡ n = omega arith in
    subst (λ (m : ℕ). sum m f ≡ sum x f + (n - x) * c) q (sum-tail x (n - x) c f (λ i a b. e i (omega arith) b))
