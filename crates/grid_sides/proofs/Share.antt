-- A side's share of the longest: extent / longest * n, for an extent that is at most the longest, rounds to no more than n. Assumes nothing.
use Rattle.std.proofs.Common.{◌≡◌, ℕ, zero, suc, ◌+◌, ◌*◌, ◌/◌, ◌^◌, ◌<◌, ◌≤◌, min, true, false, T, pos, negsuc, sym, refl, ap, ◌∙◌, subst, le_trans, le_of_eq, le_refl, mul-le-mul_right, zero-lt-suc, mul_comm, div-lt_iff_lt-mul, add-mul, mul-le-mul, mul-le-mul_left, mul-pos, one-mul, mul-zero, zero-mul, mul-one, mul_left_comm, arith, lit<}
use native.Mathlib.Nat.{mul-mul-mul_comm, min-le_left}
use lib.Dec.{eqb-suc-zero}
use lib.Count.{count_trailing_zeros}
use lib.Ieee.{Float, nan, inf, fin, Format, binary64, up, down, round, size, span, climb, units, odd, div, mul, le, of_int}
use lib.Ieee.Fits.{and_l, and_r, down_pos}
use lib.Ieee.Exact.{HasValue}
use lib.Ieee.Back.{round_whole}
use lib.Ieee.Order.{round_mono}
use lib.Ieee.Scale.{round_same}
use lib.Ieee.Positive.{positive, num, den, den_pos, own_value, positive_of_value, value_pos, le→cross, values_of_le, between, mul_at}
use Rattle.grid_sides.specs.Counts.{least, most, side_fits, nearest_whole, share}

-- a quotient of two values above zero
div_is : (f : Format) (x y : Float) → T (positive x) → T (positive y) → div f x y ≡ round f false (num x * den y) (num y * den x)
unfolding div
div_is f nan y p q = absurd p
div_is f (inf s) y p q = absurd p
div_is f (fin true m e) y p q = absurd p
div_is f (fin false m e) nan p q = absurd q
div_is f (fin false m e) (inf t) p q = absurd q
div_is f (fin false m e) (fin true n d) p q = absurd q
div_is f (fin false m e) (fin false zero d) p q = absurd q
div_is f (fin false m e) (fin false (suc n) d) p q = rw (eqb-suc-zero n)

-- 2 ^ -200 and 1, as `round` gives them
abbrev tiny : Float
tiny = fin false 1 (negsuc 199)

abbrev unit : Float
unit = fin false 1 (pos 0)

tiny-is : round binary64 false 1 (2 ^ 200) ≡ tiny
unfolding round size span climb units odd count_trailing_zeros
tiny-is = refl

unit-is : round binary64 false 1 1 ≡ unit
unfolding round size span climb units odd count_trailing_zeros
unit-is = refl

zero_is : round binary64 false 0 1 ≡ fin false 0 (pos 0)
unfolding round size span climb units odd count_trailing_zeros
zero_is = refl

-- ---- a value above zero that is at most n rounds to at most n
pub rounds : (s : Float) (n : ℕ) → T (positive s) → num s * 1 ≤ n * den s → nearest_whole s ≤ n
unfolding nearest_whole
rounds nan n p h = absurd p
rounds (inf t) n p h = absurd p
rounds (fin true m e) n p h = absurd p
rounds (fin false m e) n p h =
    let N = m * up e in
    let D = down e in
    let d : 0 < D = down_pos e in
    let z : 0 < 2 * D = omega arith in
    let a : (n + 1) * (2 * D) ≡ 2 * (n * D) + 2 * D = rw (add-mul n 1 (2 * D), mul_left_comm n 2 D) (omega arith) in
    let q : 2 * N + D < (n + 1) * (2 * D) = omega arith in
    let r : (2 * N + D) / (2 * D) < n + 1 = (div-lt_iff_lt-mul z).1 q in
    let t : min ((2 * N + D) / (2 * D)) (2 ^ 63) ≤ (2 * N + D) / (2 * D) = min-le_left ((2 * N + D) / (2 * D)) (2 ^ 63) in
    omega arith

-- ---- a side that fits lies between 2 ^ -100 and 2 ^ 100
pub fits_low : (x : Float) → T (side_fits x) → T (le least x)
unfolding side_fits
fits_low x h = and_l (le least x) (le x most) h

pub fits-high : (x : Float) → T (side_fits x) → T (le x most)
unfolding side_fits
fits-high x h = and_r (le least x) (le x most) h

pub fits-positive : (x : Float) → T (side_fits x) → T (positive x)
fits-positive x h = between least x most tt tt (fits_low x h) (fits-high x h)

-- ---- extent / longest lies between 2 ^ -200 and 1
arrange : (K a b : ℕ) → K * b * (a * K) ≡ a * b * (K * K)
arrange K a b = rw (mul_comm a K, mul-mul-mul_comm K b K a, mul_comm b a, mul_comm (K * K) (a * b))

module _ (x l : Float) (hx : T (side_fits x)) (hl : T (side_fits l)) (h : T (le x l)) where
  px : T (positive x)
  px = fits-positive x hx

  pl : T (positive l)
  pl = fits-positive l hl

  abbrev Q : Float
  Q = div binary64 x l

  Q-is : Q ≡ round binary64 false (num x * den l) (num l * den x)
  Q-is = div_is binary64 x l px pl

  below-pos : 0 < num l * den x
  below-pos = mul-pos (value_pos l (num l) (den l) pl (den_pos l) (own_value l pl)) (den_pos x)

  Q-low : T (le tiny Q)
  Q-low =
      let a : den x ≤ num x * 2 ^ 100 = le_trans (le_of_eq (sym (one-mul (den x)))) (le→cross least x tt px (fits_low x hx)) in
      let b : num l ≤ 2 ^ 100 * den l = le_trans (le_of_eq (sym (mul-one (num l)))) (le→cross l most pl tt (fits-high l hl)) in
      let c : num l * den x ≤ num x * den l * 2 ^ 200 = le_trans (mul-le-mul b a) (le_of_eq (arrange (2 ^ 100) (num x) (den l))) in
      rw Q-is
      (subst (λ (z : Float). T (le z (round binary64 false (num x * den l) (num l * den x)))) tiny-is
      (round_mono binary64 1 (2 ^ 200) (num x * den l) (num l * den x) (lit< tt) below-pos (le_trans (le_of_eq (one-mul (num l * den x))) c)))

  Q-high : T (le Q unit)
  Q-high =
      rw Q-is
      (subst (λ (z : Float). T (le (round binary64 false (num x * den l) (num l * den x)) z)) unit-is
      (round_mono binary64 (num x * den l) (num l * den x) 1 1 below-pos (lit< tt)
      (le_trans (le_of_eq (mul-one (num x * den l))) (le_trans (le→cross x l px pl h) (le_of_eq (sym (one-mul (num l * den x))))))))

  Q-positive : T (positive Q)
  Q-positive = between tiny Q unit tt tt Q-low Q-high

  -- ---- times n, for an n that is not 0
  module _ (n : ℕ) (n_pos : 0 < n) (n-le : n ≤ 2 ^ 53) where
    abbrev N : Float
    N = of_int binary64 (pos n)

    N-value : HasValue N false n 1
    unfolding of_int
    N-value = round_whole binary64 false n n-le

    N-positive : T (positive N)
    N-positive = positive_of_value N n 1 N-value n_pos

    S-is : share x l n ≡ round binary64 false (num Q * n) (den Q * 1)
    S-is = mul_at binary64 Q N (num Q) (den Q) n 1 Q-positive N-positive (den_pos Q) (lit< tt) (own_value Q Q-positive) N-value

    Q-den : 0 < den Q * 1
    Q-den = mul-pos (den_pos Q) (lit< tt)

    S-low : T (le tiny (share x l n))
    S-low =
        let a : 1 * den Q ≤ num Q * 2 ^ 200 = le→cross tiny Q tt Q-positive Q-low in
        let b : num Q * 2 ^ 200 ≤ num Q * n * 2 ^ 200 = mul-le-mul_right (2 ^ 200) (grow (num Q) n n_pos) in
        let c : 1 * (den Q * 1) ≤ num Q * n * 2 ^ 200 = le_trans (le_of_eq (ap (λ (z : ℕ). 1 * z) (mul-one (den Q)))) (le_trans a b) in
        rw S-is
        (subst (λ (z : Float). T (le z (round binary64 false (num Q * n) (den Q * 1)))) tiny-is
        (round_mono binary64 1 (2 ^ 200) (num Q * n) (den Q * 1) (lit< tt) Q-den c))
      where
        grow : (a b : ℕ) → 0 < b → a ≤ a * b
        grow a b h = subst (λ (z : ℕ). z ≤ a * b) (mul-one a) (mul-le-mul_left a h)

    S-high : T (le (share x l n) N)
    unfolding of_int
    S-high =
        let a : num Q * 1 ≤ 1 * den Q = le→cross Q unit Q-positive tt Q-high in
        let b : num Q ≤ den Q * 1 = omega arith in
        let c : num Q * n * 1 ≤ n * (den Q * 1) = le_trans (le_of_eq (mul-one (num Q * n) ∙ mul_comm (num Q) n)) (mul-le-mul_left n b) in
        rw S-is (round_mono binary64 (num Q * n) (den Q * 1) n 1 Q-den (lit< tt) c)

    pub S-positive : T (positive (share x l n))
    S-positive = between tiny (share x l n) N tt N-positive S-low S-high

    S-value : num (share x l n) * 1 ≤ n * den (share x l n)
    S-value = values_of_le (share x l n) N (num (share x l n)) (den (share x l n)) n 1 S-positive N-positive (own_value (share x l n) S-positive) N-value S-high

    S-whole : nearest_whole (share x l n) ≤ n
    S-whole = rounds (share x l n) n S-positive S-value

  -- ---- times 0
  times_zero : (q : Float) → T (positive q) → mul binary64 q (fin false 0 (pos 0)) ≡ fin false 0 (pos 0)
  unfolding mul
  times_zero nan p = absurd p
  times_zero (inf s) p = absurd p
  times_zero (fin true m e) p = absurd p
  times_zero (fin false m e) p =
      round_same binary64 false (m * up e * 0) (down e * 1) 0 1 (mul-pos (down_pos e) (lit< tt)) (lit< tt) (rw (mul-zero (m * up e)) (sym (zero-mul (down e * 1)))) ∙ zero_is

  none-whole : nearest_whole (share x l 0) ≤ 0
  unfolding of_int nearest_whole
  none-whole = rw (zero_is, times_zero Q Q-positive) (le_refl 0)

  -- a share rounds to no more than n
  pub share-le : (n : ℕ) → n ≤ 2 ^ 53 → nearest_whole (share x l n) ≤ n
  share-le zero b = none-whole
  share-le (suc n) b = S-whole (suc n) (zero-lt-suc n) b
