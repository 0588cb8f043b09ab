-- The nearest whole number by doubling: a float of 2 ^ 63 or less doubles exactly, and the whole part of x + 1/2 is half that of 2 * x + 1. Assumes nothing.
use Rattle.std.proofs.Common.{◌≡◌, ℕ, zero, suc, ◌+◌, ◌-◌, ◌*◌, ◌/◌, ◌%◌, ◌^◌, ◌<◌, ◌≤◌, true, false, ◌&&◌, T, eqb, ltb, leb, ◌⊎◌, ℤ, pos, negsuc, sym, refl, ap, ◌∙◌, subst, inl, inr, ⊎_elim, lt_of_lt_of_le, mul_assoc, mul_comm, div-lt_iff_lt-mul, add-mul, lt_of_mul-lt-mul_right, mul-lt-mul_of_pos_right, mul-pos, one-mul, le-div_iff_mul-le, mul-one, mul_right_comm, not-le_of_lt, mul_left_comm, arith, lit≤, ltb→lt, lt→ltb, leb→le, pow_pos, pow_mono, pow-add, shl_lt, ltb-false, ltb-true}
use native.Mathlib.Nat.{min-eq_left, min-eq_right, div-div-eq-div-mul, div-eq_of_lt, mul-div-mul_right, add-mul-div_right}
use lib.Pow.{pow-lt}
use native.Mathlib.Decide.{dec_le, dec_lt}
use lib.Ieee.{Float, nan, inf, fin, binary64, up, down, sum, add, le, lt, eq, to_unsigned, fits}
use lib.Ieee.Fits.{down_pos, and_l, and_r}
use lib.Ieee.Exact.{HasValue, round_exact}
use lib.Ieee.Nearest.{div_same}
use lib.Ieee.Positive.{cross→le, above_of_le, first_pos}
use Rattle.grid_sides.specs.Counts.{nearest_whole}

-- ---- what a float of a known value gives

pub whole-of-value : (y : Float) (a c : ℕ) → 0 < c → HasValue y false a c → a < 2 ^ 64 * c → to_unsigned 64 y ≡ a / c
unfolding to_unsigned
whole-of-value nan a c p h l = absurd h
whole-of-value (inf s) a c p h l = absurd h
whole-of-value (fin true m e) a c p h l = absurd (subst T h.0 tt)
whole-of-value (fin false m e) a c p h l =
    let q : m * up e / down e ≡ a / c = div_same (m * up e) (down e) a c (down_pos e) p h.1 in
    let u : a / c < 2 ^ 64 = (div-lt_iff_lt-mul p).1 l in
    rw q (min-eq_left (omega arith))

pub above_minus_one : (y : Float) (a c : ℕ) → HasValue y false a c → T (lt (fin true 1 (pos 0)) y)
unfolding lt
above_minus_one nan a c h = absurd h
above_minus_one (inf s) a c h = absurd h
above_minus_one (fin true m e) a c h = absurd (subst T h.0 tt)
above_minus_one (fin false m e) a c h = let d : 0 < down e = down_pos e in lt→ltb 0 (1 * down e + m * up e * 1) (omega arith)

pub below-2-64 : (y : Float) (a c : ℕ) → 0 < c → HasValue y false a c → a < 2 ^ 64 * c → T (lt y (fin false 1 (pos 64)))
unfolding lt
below-2-64 nan a c p h l = absurd h
below-2-64 (inf s) a c p h l = absurd h
below-2-64 (fin true m e) a c p h l = absurd (subst T h.0 tt)
below-2-64 (fin false m e) a c p h l =
    let d = down e in
    let n = m * up e in
    let x : a * d < 2 ^ 64 * c * d = mul-lt-mul_of_pos_right l (down_pos e) in
    let y : n * c < 2 ^ 64 * d * c = rw (mul_right_comm (2 ^ 64) d c, h.1) x in
    lt→ltb (n * 1) (2 ^ 64 * d) (rw (mul-one n) (lt_of_mul-lt-mul_right c y))

-- ---- doubling

-- the parts of `fits` for a number that is not 0
module _ (m : ℕ) (e : ℤ) (h : T (fits binary64 (fin false (suc m) e))) where
  first_three : T (eqb (suc m % 2) 1 && ltb (suc m) (2 ^ 53) && leb (down e) (2 ^ 1074))
  unfolding fits
  first_three = and_l (eqb (suc m % 2) 1 && ltb (suc m) (2 ^ 53) && leb (down e) (2 ^ 1074)) (ltb (suc m * up e) (2 ^ 1024 * down e)) h

  digits-small : suc m < 2 ^ 53
  digits-small =
      ltb→lt (suc m) (2 ^ 53) (and_r (eqb (suc m % 2) 1) (ltb (suc m) (2 ^ 53))
      (and_l (eqb (suc m % 2) 1 && ltb (suc m) (2 ^ 53)) (leb (down e) (2 ^ 1074)) first_three))

  scale_small : down e ≤ 2 ^ 1074
  scale_small = leb→le (down e) (2 ^ 1074) (and_r (eqb (suc m % 2) 1 && ltb (suc m) (2 ^ 53)) (leb (down e) (2 ^ 1074)) first_three)

-- twice the fraction, as `add` has it
abbrev twice : ℕ → ℤ → ℕ
twice m e = m * up e * down e + m * up e * down e

under_pow : (k : ℕ) → 2 ^ suc k ≤ 2 ^ 1074 → suc k ≤ 1074
under_pow k h = ⊎_elim (λ (l : suc k ≤ 1074). l) (λ (l : 1074 < suc k). absurd (not-le_of_lt (pow-lt l) h)) (le-or-gt (suc k) 1074)
  where
    le-or-gt : (a b : ℕ) → (a ≤ b) ⊎ (b < a)
    le-or-gt a b = elim (dec_le a b) [ yes l ↦ inl l | no l ↦ inr (omega arith) ]

plus_times : (P Q : ℕ) → (P + P) * Q ≡ P * (2 * Q)
plus_times P Q = rw (add-mul P P Q, mul_left_comm P 2 Q) (omega arith)

twice-times : (P Q : ℕ) → (P * 1 + P * 1) * Q ≡ P * (2 * Q)
twice-times P Q = rw (mul-one P) (plus_times P Q)

doubled : (m : ℕ) (e : ℤ) → T (fits binary64 (fin false (suc m) e)) → suc m * up e < 2 ^ 63 * down e → HasValue (add binary64 (fin false (suc m) e) (fin false (suc m) e)) false (twice (suc m) e) (down e * down e)
unfolding add sum
doubled m (pos k) h l =
    let P = suc m * 2 ^ k in
    let q : suc m * 2 ^ (k + 1075) ≡ P * 2 ^ 1075 = rw (pow-add 2 k 1075) (sym (mul_assoc (suc m) (2 ^ k) (2 ^ 1075))) in
    round_exact binary64 false (P * 1 + P * 1) 1 (suc m) (k + 1075) (omega arith) (digits-small m (pos k) h)
    (rw q (lt_of_lt_of_le (shl_lt 63 1075 l) (pow_mono {i = 1138} {j = 2098} (lit≤ tt))))
    (rw (mul-one (suc m * 2 ^ (k + 1075)), q) (twice-times P (2 ^ 1074)))
doubled m (negsuc k) h l =
    let D = 2 ^ suc k in
    let b : suc k ≤ 1074 = under_pow k (scale_small m (negsuc k) h) in
    let j = 1074 - k in
    let r : j + suc k ≡ 1075 = omega arith in
    let q : 2 ^ j * D ≡ 2 ^ 1075 = sym (pow-add 2 j (suc k)) ∙ ap (λ (x : ℕ). 2 ^ x) r in
    let small = digits-small m (negsuc k) h in
    round_exact binary64 false (suc m * 1 * D + suc m * 1 * D) (D * D) (suc m) j (mul-pos (pow_pos (suc k)) (pow_pos (suc k))) small
    (lt_of_lt_of_le (shl_lt 53 j small) (pow_mono {i = 53 + j} {j = 2098} (omega arith)))
    (rw (mul_assoc (suc m) (2 ^ j) (D * D), ← (mul_assoc (2 ^ j) D D), q, mul-one (suc m), mul_comm (2 ^ 1075) D, ← (mul_assoc (suc m) D (2 ^ 1075))) (plus_times (suc m * D) (2 ^ 1074)))

-- ---- the three answers

abbrev pub half : Float
half = fin false 1 (negsuc 0)

abbrev pub big : Float
big = fin false 1 (pos 63)

-- the whole part of 2 * N / D, halved and rounded up, is the whole part of N / D + 1 / 2
halves : (N D : ℕ) → 0 < D → 2 * N / D / 2 + 2 * N / D % 2 ≡ (2 * N + D) / (2 * D)
halves N D p =
    let h = 2 * N / D in
    let a : h / 2 + h % 2 ≡ (h + 1) / 2 = omega arith in
    let b : (2 * N + 1 * D) / D ≡ h + 1 = add-mul-div_right (2 * N) 1 p in
    let c : (2 * N + D) / D ≡ h + 1 = rw (one-mul D) at b in
    a ∙ rw (← c) (div-div-eq-div-mul (2 * N + D) D 2 ∙ rw (mul_comm D 2))

-- twice the fraction by the square of the denominator
halved-down : (N D : ℕ) → 0 < D → (N * D + N * D) / (D * D) ≡ 2 * N / D
halved-down N D p =
    let q : N * D + N * D ≡ 2 * N * D = rw (mul_assoc 2 N D) (omega arith) in
    rw q (mul-div-mul_right (2 * N) D p)

double-under : (N D : ℕ) → 0 < D → N < 2 ^ 63 * D → N * D + N * D < 2 ^ 64 * (D * D)
double-under N D p l =
    let a : N * D < 2 ^ 63 * D * D = mul-lt-mul_of_pos_right l p in
    let b : 2 ^ 63 * D * D ≡ 2 ^ 63 * (D * D) = mul_assoc (2 ^ 63) D D in
    omega arith

-- x is at least 1 / 2 and below 2 ^ 63, so it doubles exactly
module _ (m : ℕ) (e : ℤ) (h : T (fits binary64 (fin false (suc m) e))) (l : lt (fin false (suc m) e) big ≡ true) where
  abbrev N : ℕ
  N = suc m * up e

  abbrev D : ℕ
  D = down e

  abbrev Y : Float
  Y = add binary64 (fin false (suc m) e) (fin false (suc m) e)

  below-big : N < 2 ^ 63 * D
  unfolding lt
  below-big = let a : N * 1 < 2 ^ 63 * D = ltb-true (N * 1) (2 ^ 63 * D) l in rw (mul-one N) at a

  value : HasValue Y false (N * D + N * D) (D * D)
  value = doubled m e h below-big

  D-pos : 0 < D
  D-pos = down_pos e

  asks : T (lt (fin true 1 (pos 0)) Y) × T (lt Y (fin false 1 (pos 64)))
  asks = (above_minus_one Y (N * D + N * D) (D * D) value, below-2-64 Y (N * D + N * D) (D * D) (mul-pos D-pos D-pos) value (double-under N D D-pos below-big))

  doubles : to_unsigned 64 Y ≡ 2 * N / D
  doubles = whole-of-value Y (N * D + N * D) (D * D) (mul-pos D-pos D-pos) value (double-under N D D-pos below-big) ∙ halved-down N D D-pos

  under-cap : (2 * N + D) / (2 * D) ≤ 2 ^ 63
  under-cap =
      let b = below-big in
      let p = D-pos in
      let q : 2 * N + D < (2 ^ 63 + 1) * (2 * D) = omega arith in
      let z : 0 < 2 * D = omega arith in
      let r : (2 * N + D) / (2 * D) < 2 ^ 63 + 1 = (div-lt_iff_lt-mul z).1 q in
      omega arith

  answer : (t : ℕ) → t ≡ to_unsigned 64 Y → t / 2 + t % 2 ≡ nearest_whole (fin false (suc m) e)
  unfolding nearest_whole
  answer t q = rw (q ∙ doubles) (halves N D D-pos ∙ sym (min-eq_left under-cap))

no-inf : lt (inf false) big ≡ true → ⊥
unfolding lt
no-inf e = subst T (sym e) tt

no-small : le half (inf false) ≡ false → ⊥
unfolding le lt eq
no-small e = subst T e tt

-- where x is not at least 1 / 2, it is less
small : (m : ℕ) (e : ℤ) → le half (fin false m e) ≡ false → m * up e * 2 < down e
small m e a = ⊎_elim (λ (l : m * up e * 2 < down e). l) (λ (l : down e ≤ m * up e * 2). absurd (subst T a (reaches m e l))) (lt-or-ge (m * up e * 2) (down e))
  where
    lt-or-ge : (k n : ℕ) → (k < n) ⊎ (n ≤ k)
    lt-or-ge k n = elim (dec_lt k n) [ yes l ↦ inl l | no l ↦ inr (omega arith) ]

    reaches : (m : ℕ) (e : ℤ) → down e ≤ m * up e * 2 → T (le half (fin false m e))
    reaches m e l =
        let p : 0 < down e = down_pos e in
        let q : 0 < m * up e = omega arith in
        cross→le half (fin false m e) tt (lt→ltb 0 m (first_pos m (up e) q)) (omega arith)

pub near-asks : (x : Float) → T (fits binary64 x) → le half x ≡ true → lt x big ≡ true → T (lt (fin true 1 (pos 0)) (add binary64 x x)) × T (lt (add binary64 x x) (fin false 1 (pos 64)))
near-asks nan f a b = absurd (above_of_le half nan tt (subst T (sym a) tt))
near-asks (inf true) f a b = absurd (above_of_le half (inf true) tt (subst T (sym a) tt))
near-asks (inf false) f a b = absurd (no-inf b)
near-asks (fin true m e) f a b = absurd (above_of_le half (fin true m e) tt (subst T (sym a) tt))
near-asks (fin false zero e) f a b = absurd (above_of_le half (fin false zero e) tt (subst T (sym a) tt))
near-asks (fin false (suc m) e) f a b = asks m e f b

pub near-is : (x : Float) → T (fits binary64 x) → le half x ≡ true → lt x big ≡ true → (t : ℕ) → t ≡ to_unsigned 64 (add binary64 x x) → t / 2 + t % 2 ≡ nearest_whole x
near-is nan f a b t q = absurd (above_of_le half nan tt (subst T (sym a) tt))
near-is (inf true) f a b t q = absurd (above_of_le half (inf true) tt (subst T (sym a) tt))
near-is (inf false) f a b t q = absurd (no-inf b)
near-is (fin true m e) f a b t q = absurd (above_of_le half (fin true m e) tt (subst T (sym a) tt))
near-is (fin false zero e) f a b t q = absurd (above_of_le half (fin false zero e) tt (subst T (sym a) tt))
near-is (fin false (suc m) e) f a b t q = answer m e f b t q

-- x is 2 ^ 63 or more
pub near-large : (x : Float) → le half x ≡ true → lt x big ≡ false → 2 ^ 63 ≡ nearest_whole x
unfolding nearest_whole lt
near-large nan a b = absurd (above_of_le half nan tt (subst T (sym a) tt))
near-large (inf true) a b = absurd (above_of_le half (inf true) tt (subst T (sym a) tt))
near-large (inf false) a b = refl
near-large (fin true m e) a b = absurd (above_of_le half (fin true m e) tt (subst T (sym a) tt))
near-large (fin false m e) a b =
    let n = m * up e in
    let d = down e in
    let p : 0 < d = down_pos e in
    let l : 2 ^ 63 * d ≤ n * 1 = ltb-false (n * 1) (2 ^ 63 * d) b in
    let k : 2 ^ 63 * (2 * d) ≤ 2 * n + d = omega arith in
    sym (min-eq_right ((le-div_iff_mul-le (omega arith)).1 k))

-- x is below 1 / 2, or no number
pub near-small : (x : Float) → le half x ≡ false → 0 ≡ nearest_whole x
unfolding nearest_whole
near-small nan a = refl
near-small (inf true) a = refl
near-small (inf false) a = absurd (no-small a)
near-small (fin true m e) a = refl
near-small (fin false m e) a =
    let n = m * up e in
    let d = down e in
    let p : 0 < d = down_pos e in
    let l : n * 2 < d = small m e a in
    let z : (2 * n + d) / (2 * d) ≡ 0 = div-eq_of_lt (omega arith) in
    rw z
