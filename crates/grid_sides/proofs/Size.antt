-- A comparison from below sees the magnitude of x as -x where x is below zero, and as x otherwise: -0 too, since no comparison tells it from +0. Assumes nothing.
use Rattle.std.proofs.Common.{◌≡◌, ℕ, zero, suc, ◌+◌, ◌*◌, ◌<◌, ◌≤◌, true, false, ◌||◌, T, ℤ, pos, sym, refl, subst, zero-lt-suc, mul-pos, zero-add, zero-mul, arith, ltb-false, ltb-true, le-ltb}
use lib.Ieee.{Float, nan, inf, fin, up, down, neg, le, lt, eq, below, level}
use lib.Ieee.Fits.{up_pos}
use Rattle.grid_sides.specs.Lengths.{magnitude}

abbrev nought : Float
nought = fin false 0 (pos 0)

pub below-zero : (x y : Float) → lt x nought ≡ true → le (neg x) y ≡ le (magnitude x) y
unfolding neg lt
below-zero nan y h = refl
below-zero (inf true) y h = refl
below-zero (inf false) y h = absurd (subst T (sym h) tt)
below-zero (fin true m e) y h = refl
below-zero (fin false m e) y h =
    let l : m * up e * 1 < 0 * down e = ltb-true (m * up e * 1) (0 * down e) h in
    absurd (let z : 0 * down e ≡ 0 = zero-mul (down e) in let w : ⊥ = omega arith in w)

-- no comparison tells -0 from +0
zero-true : (b : ℕ) → below true 0 true b || level true 0 true b ≡ below false 0 true b || level false 0 true b
zero-true b = rw (le-ltb b 0 (omega arith))

zero-false : (b : ℕ) → below true 0 false b || level true 0 false b ≡ below false 0 false b || level false 0 false b
zero-false b = rw (zero-add b)

zero_same : (e : ℤ) (y : Float) → le (fin true 0 e) y ≡ le (fin false 0 e) y
unfolding le lt eq
zero_same e nan = refl
zero_same e (inf t) = refl
zero_same e (fin true n d) = let z : 0 * up e * down d ≡ 0 = rw (zero-mul (up e)) (zero-mul (down d)) in rw z (zero-true (n * up d * down e))
zero_same e (fin false n d) = let z : 0 * up e * down d ≡ 0 = rw (zero-mul (up e)) (zero-mul (down d)) in rw z (zero-false (n * up d * down e))

pub not-below-zero : (x y : Float) → lt x nought ≡ false → le x y ≡ le (magnitude x) y
unfolding neg lt
not-below-zero nan y h = refl
not-below-zero (inf true) y h = absurd (subst T h tt)
not-below-zero (inf false) y h = refl
not-below-zero (fin false m e) y h = refl
not-below-zero (fin true (suc m) e) y h =
    let l : suc m * up e * 1 + 0 * down e ≤ 0 = ltb-false 0 (suc m * up e * 1 + 0 * down e) h in
    let p : 0 < suc m * up e = mul-pos (zero-lt-suc m) (up_pos e) in
    absurd (let w : ⊥ = omega arith in w)
not-below-zero (fin true zero e) y h = zero_same e y
