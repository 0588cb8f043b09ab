-- Rings close, go counterclockwise, exactly and as printed, and stay between two neighbouring columns. Assumes nothing.
use mathlib.Core.Path.{◌≡◌, refl, sym, ap, ◌∙◌}
use mathlib.Core.List.{List}
use Prim.Native.Nat.{ℕ, zero, suc, ◌+◌, ◌-◌, ◌*◌, ◌≤◌, ◌<◌}
use native.Mathlib.Nat.{add-mul, mul-lt-mul_of_pos_left}
use native.Mathlib.Omega.{arith}
use lib.ListN.{length, get_or}
use Rattle.quotient.specs.declared.Grid.{Grid}
use Rattle.quotient.specs.Shape.{cells_on}
use Rattle.quotient.specs.Reduce.{coord_at}
use Rattle.file_geojson.specs.Kind.{Mapped}
use Rattle.file_geojson.proofs.Angles.{columns-some, rows-some, columns-few, rows_few}
use Rattle.file_geojson_laws.specs.Map.{Ring, lower, upper, east_of, north_of, printed_of, printed_east, printed_north, Counterclockwise}
use Rattle.file_geojson_laws.proofs.Rounding.{printed-rises}

-- a ring of four positions closes
pub ring-closes : {g : Grid} {c r : ℕ} {vs : List ℕ} → Ring g c r vs → (length vs ≡ 4) × (get_or vs 3 0 ≡ get_or vs 0 0)
ring-closes (lower a b e) = (refl, refl)
ring-closes (upper a b e) = (refl, refl)

area : (x z y w : ℕ) → x < z → y < w → z * y + x * w < x * y + z * w
area x z y w h l =
    let s : x + (z - x) ≡ z = omega arith in
    let u : (z - x) * y < (z - x) * w = mul-lt-mul_of_pos_left {m = y} {n = w} {k = z - x} l (omega arith) in
    let a : z * y ≡ x * y + (z - x) * y = ap (λ (t : ℕ). t * y) (sym s) ∙ add-mul x (z - x) y in
    let b : z * w ≡ x * w + (z - x) * w = ap (λ (t : ℕ). t * w) (sym s) ∙ add-mul x (z - x) w in
    omega arith

-- with two numbers for each point that only read its column and its row, and rise with them
module _ (g : Grid) (x y : ℕ → ℕ) (X Y : ℕ → ℕ) (ex : (v : ℕ) → x v ≡ X (coord_at g v 0)) (ey : (v : ℕ) → y v ≡ Y (coord_at g v 1)) where
  turns : (c r : ℕ) (vs : List ℕ) → X c < X (c + 1) → Y r < Y (r + 1) → Ring g c r vs → Counterclockwise x y (get_or vs 0 0) (get_or vs 1 0) (get_or vs 2 0)
  turns c r vs h l (lower {a} {b} {e} p q s) =
      rw (ex a, ex b, ex e, ey a, ey b, ey e, p.0, p.1, q.0, q.1, s.0, s.1) (omega (arith, area (X c) (X (c + 1)) (Y r) (Y (r + 1)) h l))
  turns c r vs h l (upper {a} {b} {e} p q s) =
      rw (ex a, ex b, ex e, ey a, ey b, ey e, p.0, p.1, q.0, q.1, s.0, s.1) (omega (arith, area (X c) (X (c + 1)) (Y r) (Y (r + 1)) h l))

module _ (g : Grid) (low high : ℕ) (m : Mapped g low high) (c r : ℕ) where
  north-rises : low * cells_on g 1 + (high - low) * r < low * cells_on g 1 + (high - low) * (r + 1)
  north-rises =
      let u : (high - low) * r < (high - low) * (r + 1) = mul-lt-mul_of_pos_left {m = r} {n = r + 1} {k = high - low} (omega arith) (omega (arith, m.between)) in
      omega arith

  -- the exact positions
  pub counterclockwise : (vs : List ℕ) → Ring g c r vs → Counterclockwise (east_of g) (north_of g low high) (get_or vs 0 0) (get_or vs 1 0) (get_or vs 2 0)
  counterclockwise vs ring =
      turns g (east_of g) (north_of g low high) (λ i. 360 * i) (λ j. low * cells_on g 1 + (high - low) * j) (λ v. refl) (λ v. refl) c r vs (omega arith) north-rises ring

  pub east-apart : printed_of (360 * c) (180 * cells_on g 0) (cells_on g 0) < printed_of (360 * (c + 1)) (180 * cells_on g 0) (cells_on g 0)
  east-apart = printed-rises (cells_on g 0) (columns-some g low high m) (180 * cells_on g 0) (omega (arith, columns-few g low high m)) (360 * c) (360 * (c + 1)) (omega arith) (omega arith)

  pub north-apart : printed_of (low * cells_on g 1 + (high - low) * r) (90 * cells_on g 1) (cells_on g 1) < printed_of (low * cells_on g 1 + (high - low) * (r + 1)) (90 * cells_on g 1) (cells_on g 1)
  north-apart =
      printed-rises (cells_on g 1) (rows-some g low high m) (90 * cells_on g 1) (omega (arith, rows_few g low high m)) (low * cells_on g 1 + (high - low) * r) (low * cells_on g 1 + (high - low) * (r + 1)) north-rises (omega arith)

  -- the printed positions
  pub counterclockwise-printed : (vs : List ℕ) → Ring g c r vs → Counterclockwise (printed_east g) (printed_north g low high) (get_or vs 0 0) (get_or vs 1 0) (get_or vs 2 0)
  counterclockwise-printed vs ring =
      turns g (printed_east g) (printed_north g low high) (λ i. printed_of (360 * i) (180 * cells_on g 0) (cells_on g 0))
      (λ j. printed_of (low * cells_on g 1 + (high - low) * j) (90 * cells_on g 1) (cells_on g 1)) (λ v. refl) (λ v. refl) c r vs east-apart north-apart ring

  -- no ring leaves its column: each point stands on one of two neighbouring meridians
  pub in-column : (vs : List ℕ) (k : ℕ) → Ring g c r vs → k < 4 → (c ≤ coord_at g (get_or vs k 0) 0) × (coord_at g (get_or vs k 0) 0 ≤ c + 1)
  in-column vs zero (lower p q s) h = (omega (arith, p.0), omega (arith, p.0))
  in-column vs (suc zero) (lower p q s) h = (omega (arith, q.0), omega (arith, q.0))
  in-column vs (suc (suc zero)) (lower p q s) h = (omega (arith, s.0), omega (arith, s.0))
  in-column vs (suc (suc (suc zero))) (lower p q s) h = (omega (arith, p.0), omega (arith, p.0))
  in-column vs (suc (suc (suc (suc k)))) (lower p q s) h = absurd (omega arith)
  in-column vs zero (upper p q s) h = (omega (arith, p.0), omega (arith, p.0))
  in-column vs (suc zero) (upper p q s) h = (omega (arith, q.0), omega (arith, q.0))
  in-column vs (suc (suc zero)) (upper p q s) h = (omega (arith, s.0), omega (arith, s.0))
  in-column vs (suc (suc (suc zero))) (upper p q s) h = (omega (arith, p.0), omega (arith, p.0))
  in-column vs (suc (suc (suc (suc k)))) (upper p q s) h = absurd (omega arith)
