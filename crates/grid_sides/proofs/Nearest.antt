-- `nearest n k` is the nearest whole number to n / k, a half going up: it is the one w with w - 1 / 2 ≤ n / k < w + 1 / 2. Assumes nothing.
use Rattle.std.proofs.Common.{◌≡◌, ℕ, suc, ◌+◌, ◌*◌, ◌^◌, ◌<◌, ◌≤◌, min, true, false, T, mul-le-mul_right, suc-mul, div-lt_iff_lt-mul, add-mul, le-div_iff_mul-le, arith}
use native.Mathlib.Decide.{dec_lt}
use lib.Ieee.{Float, nan, inf, fin, up, down}
use lib.Ieee.Fits.{down_pos}
use lib.Ieee.Positive.{positive, num, den}
use Rattle.grid_sides.specs.Counts.{nearest, nearest_whole}

-- w - 1 / 2 ≤ n / k < w + 1 / 2, multiplied by 2 * k
pub record Nearest (n k w : ℕ) : Type 0 where
  pub no_less : w * (2 * k) ≤ 2 * n + k
  pub no_more : 2 * n < w * (2 * k) + k

pub nearest-is : (n k : ℕ) → 0 < k → Nearest n k (nearest n k)
nearest-is n k p =
    let z : 0 < 2 * k = omega arith in
    let w = nearest n k in
    let a : w * (2 * k) ≤ 2 * n + k = (le-div_iff_mul-le z).0 (omega arith) in
    let b : 2 * n + k < (w + 1) * (2 * k) = (div-lt_iff_lt-mul z).0 (omega arith) in
    let c : (w + 1) * (2 * k) ≡ w * (2 * k) + 1 * (2 * k) = add-mul w 1 (2 * k) in
    record { no_less = a; no_more = omega arith }

-- a whole number below another leaves too much
apart : (n k w v : ℕ) → Nearest n k w → Nearest n k v → w < v → ⊥
apart n k w v a b h =
    let x : suc w * (2 * k) ≤ v * (2 * k) = mul-le-mul_right (2 * k) h in
    let y : suc w * (2 * k) ≡ w * (2 * k) + 2 * k = suc-mul w (2 * k) in
    let l = a.no_more in
    let m = b.no_less in
    omega arith

pub nearest-only : (n k w : ℕ) → 0 < k → Nearest n k w → w ≡ nearest n k
nearest-only n k w p a =
    let b = nearest-is n k p in
    elim (dec_lt w (nearest n k)) [ yes h ↦ absurd (apart n k w (nearest n k) a b h) | no h ↦ elim (dec_lt (nearest n k) w) [ yes q ↦ absurd (apart n k (nearest n k) w b a q) | no q ↦ omega arith ] ]

-- a float's nearest whole number is that of its exact value, the fraction num x / den x
pub whole_is : (x : Float) → T (positive x) → nearest_whole x < 2 ^ 63 → Nearest (num x) (den x) (nearest_whole x)
unfolding nearest_whole
whole_is nan p h = absurd p
whole_is (inf s) p h = absurd p
whole_is (fin true m e) p h = absurd p
whole_is (fin false m e) p h =
    let q : min (nearest (m * up e) (down e)) (2 ^ 63) ≡ nearest (m * up e) (down e) = omega arith in
    rw q (nearest-is (m * up e) (down e) (down_pos e))
