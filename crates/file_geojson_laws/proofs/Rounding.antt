-- Rounding to millionths: whole numbers stay, neighbours stay apart, and what is below zero is not rounded to zero. Assumes nothing.
use mathlib.Core.Path.{◌≡◌, ap, ◌∙◌}
use mathlib.Core.Logic.{⊎_elim}
use Prim.Native.Nat.{ℕ, ◌+◌, ◌-◌, ◌*◌, ◌/◌, ◌%◌, ◌≤◌, ◌<◌}
use native.Mathlib.Nat.{add-mul, mul_left_comm, mul_right_comm, mul_comm, mul-le-mul_right, mul-lt-mul_of_pos_right, add-div_right, le-div_iff_mul-le, one-mul, div-add-mod, mod-lt}
use native.Mathlib.Omega.{arith}
use borrow.Author.Tests.{lt-ltb, le-ltb}
use lib.Arith.{digits_div}
use Rattle.quotient.proofs.Laws.{lt-or-ge}
use Rattle.file_writing.specs.Six.{million}
use Rattle.file_geojson.specs.Degrees.{nearest}
use Rattle.file_geojson_laws.specs.Map.{printed_of}

-- a whole number stays
pub nearest-whole : (k den : ℕ) → 0 < den → nearest (k * den) den ≡ k
unfolding nearest
nearest-whole k den h =
    ap (λ (n : ℕ). (n + den) / (2 * den)) (mul_left_comm 2 k den)
    ∙ digits_div k {m = 2 * den} {r = den} (omega arith)

module _ (den : ℕ) (h : 0 < den) where
  -- what is at least a half is not rounded to zero
  pub nearest-some : (x : ℕ) → den ≤ 2 * x → 1 ≤ nearest x den
  unfolding nearest
  nearest-some x l = (le-div_iff_mul-le {k = 2 * den} {x = 1} {y = 2 * x + den} (omega arith)).1 (omega (arith, one-mul (2 * den)))

  pub nearest-up : (x y : ℕ) → x ≤ y → nearest x den ≤ nearest y den
  unfolding nearest
  nearest-up x y l = (le-div_iff_mul-le {k = 2 * den} {x = (2 * x + den) / (2 * den)} {y = 2 * y + den} (omega arith)).1
      (let q = div-add-mod (2 * x + den) (2 * den) in omega (arith, q, mul_comm ((2 * x + den) / (2 * den)) (2 * den)))

  -- numbers that are 1 apart stay apart
  pub nearest-apart : (x y : ℕ) → x + den ≤ y → nearest x den < nearest y den
  unfolding nearest
  nearest-apart x y l =
      let e : (2 * x + den + 2 * den) / (2 * den) ≡ (2 * x + den) / (2 * den) + 1 = add-div_right (2 * x + den) {k = 2 * den} (omega arith) in
      let u : nearest (x + den) den ≤ nearest y den = nearest-up (x + den) y l in
      let s : 2 * (x + den) + den ≡ 2 * x + den + 2 * den = omega arith in
      omega (arith, ap (λ (n : ℕ). n / (2 * den)) s)

  pub nearest-most : (x : ℕ) → x ≤ 180 * den → nearest (x * million) den ≤ 180 * million
  nearest-most x l =
      let u : nearest (x * million) den ≤ nearest (180 * million * den) den = nearest-up (x * million) (180 * million * den) (omega arith) in
      omega (arith, nearest-whole (180 * million) den h)

  -- ---- printed numbers rise with what they stand for, where neighbours are at least a millionth apart
  module _ (b : ℕ) (few : den ≤ million) where
    part : (x y : ℕ) → x < y → x * million + den ≤ y * million
    part x y l = omega arith

    pub printed-rises : (a c : ℕ) → a < c → b ≤ 180 * den → printed_of a b den < printed_of c b den
    unfolding printed_of
    printed-rises a c l w =
        ⊎_elim
        (λ (p : c < b).
        rw (lt-ltb a b (omega arith), lt-ltb c b p)
        (let u : nearest ((b - c) * million) den < nearest ((b - a) * million) den = nearest-apart ((b - c) * million) ((b - a) * million) (part (b - c) (b - a) (omega arith)) in
        let v : nearest ((b - a) * million) den ≤ 180 * million = nearest-most (b - a) (omega arith) in
        omega arith))
        (λ (p : b ≤ c).
        ⊎_elim
        (λ (q : a < b).
        rw (lt-ltb a b q, le-ltb c b p)
        (let u : 1 ≤ nearest ((b - a) * million) den = nearest-some ((b - a) * million) (omega arith) in
        let v : nearest ((b - a) * million) den ≤ 180 * million = nearest-most (b - a) (omega arith) in
        omega arith))
        (λ (q : b ≤ a).
        rw (le-ltb a b q, le-ltb c b p)
        (let u : nearest ((a - b) * million) den < nearest ((c - b) * million) den = nearest-apart ((a - b) * million) ((c - b) * million) (part (a - b) (c - b) (omega arith)) in
        omega arith))
        (lt-or-ge a b))
        (lt-or-ge c b)

-- what is printed keeps its order, and a whole number of degrees is printed as it is
module _ (den : ℕ) (h : 0 < den) (few : den ≤ million) (b : ℕ) (w : b ≤ 180 * den) where
  pub printed-up : (a c : ℕ) → a ≤ c → printed_of a b den ≤ printed_of c b den
  printed-up a c l =
      ⊎_elim
      (λ (p : a < c). let q : printed_of a b den < printed_of c b den = printed-rises den h b few a c p w in omega arith)
      (λ (p : c ≤ a). let e : a ≡ c = omega arith in let q : printed_of a b den ≡ printed_of c b den = ap (λ (x : ℕ). printed_of x b den) e in omega arith)
      (lt-or-ge a c)

pub differ : (k z den : ℕ) → k ≤ z → z * den - k * den ≡ (z - k) * den
differ k z den l =
    let e : k + (z - k) ≡ z = omega arith in
    omega (arith, add-mul k (z - k) den, ap (λ (t : ℕ). t * den) e)

pub printed-whole : (k z den : ℕ) → 0 < den → z ≤ 180 → printed_of (k * den) (z * den) den ≡ (180 + k - z) * million
unfolding printed_of
printed-whole k z den h l =
    ⊎_elim
    (λ (p : k < z).
    let s : (z - k) * den * million ≡ (z - k) * million * den = mul_right_comm (z - k) den million in
    let d : z * den - k * den ≡ (z - k) * den = differ k z den (omega arith) in
    let e : nearest ((z * den - k * den) * million) den ≡ (z - k) * million = ap (λ (x : ℕ). nearest (x * million) den) d ∙ ap (λ (x : ℕ). nearest x den) s ∙ nearest-whole ((z - k) * million) den h in
    rw (lt-ltb (k * den) (z * den) (mul-lt-mul_of_pos_right {m = k} {n = z} {k = den} p h)) (omega arith))
    (λ (p : z ≤ k).
    let s : (k - z) * den * million ≡ (k - z) * million * den = mul_right_comm (k - z) den million in
    let d : k * den - z * den ≡ (k - z) * den = differ z k den p in
    let e : nearest ((k * den - z * den) * million) den ≡ (k - z) * million = ap (λ (x : ℕ). nearest (x * million) den) d ∙ ap (λ (x : ℕ). nearest x den) s ∙ nearest-whole ((k - z) * million) den h in
    rw (le-ltb (k * den) (z * den) (mul-le-mul_right den p)) (omega arith))
    (lt-or-ge k z)

-- what is printed is nearest: no more than half a millionth off, and a half goes up
pub nearest-near : (x den : ℕ) → 0 < den → (2 * den * nearest x den ≤ 2 * x + den) × (2 * x + den < 2 * den * nearest x den + 2 * den)
unfolding nearest
nearest-near x den h =
    let e : 2 * den * ((2 * x + den) / (2 * den)) + (2 * x + den) % (2 * den) ≡ 2 * x + den = div-add-mod (2 * x + den) (2 * den) in
    let f : (2 * x + den) % (2 * den) < 2 * den = mod-lt (2 * x + den) {m = 2 * den} (omega arith) in
    (omega arith, omega arith)
