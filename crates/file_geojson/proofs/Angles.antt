-- The numbers that angles are made of: they fit, and they are the definition's. Assumes nothing.
use mathlib.Core.Path.{◌≡◌, ap, ◌∙◌}
use mathlib.Core.List.{◌∷◌}
use Prim.Native.Nat.{ℕ, ◌+◌, ◌-◌, ◌*◌, ◌/◌, ◌≤◌, ◌<◌}
use native.Mathlib.Nat.{div-le_self, mul-le-mul, mul-le-mul_left, mul-le-mul_right, mul_left_comm, mul_assoc, one-mul, mul-one}
use native.Mathlib.Omega.{arith}
use borrow.Author.Tests.{lt-ltb, le-ltb}
use Rattle.file_writing.specs.Six.{million}
use Rattle.file_writing.specs.Wrote.{farthest}
use Rattle.quotient.specs.declared.Grid.{Grid}
use Rattle.quotient.specs.Fold.{product, factorial}
use Rattle.quotient.specs.Shape.{cells_on, cell_count, points_on}
use Rattle.quotient.specs.Reduce.{coord_at}
use Rattle.quotient.proofs.Points.{coord-le}
use Rattle.quotient.proofs.Taken.{taken-cells}
use Rattle.grid_words.proofs.Corners.{some-cell, corner-lt}
use Rattle.grid_words.specs.WorkNumbered.{corner_of}
use Rattle.file_geojson.specs.Degrees.{fraction_of, degrees_of}
use Rattle.file_geojson.specs.File.{longitude_of, latitude_of}
use Rattle.file_geojson.specs.Kind.{Mapped}
use Rattle.file_geojson.specs.Work.{far_angle}
use Rattle.file_geojson.proofs.Vertices.{band-two}

pub nearest-fits : (m den : ℕ) → m ≤ far_angle → den ≤ far_angle → (2 * (m * 1000000) + den) / (2 * den) < farthest * million
nearest-fits m den h l = omega (arith, div-le_self (2 * (m * 1000000) + den) (2 * den))

module _ (a b den : ℕ) where
  pub degrees-below : a < b → 45 ∷ fraction_of (b - a) den ≡ degrees_of a b den
  unfolding degrees_of
  degrees-below h = rw (lt-ltb a b h)

  pub degrees-above : b ≤ a → fraction_of (a - b) den ≡ degrees_of a b den
  unfolding degrees_of
  degrees-above h = rw (le-ltb a b h)

pub longitude-is : (g : Grid) (v n i : ℕ) → n ≡ cells_on g 0 → i ≡ coord_at g v 0 → degrees_of (360 * i) (180 * n) n ≡ longitude_of g v
longitude-is g v n i e h = ap (λ (x : ℕ). degrees_of (360 * x) (180 * n) n) h ∙ ap (λ (y : ℕ). degrees_of (360 * coord_at g v 0) (180 * y) y) e

-- ---- a grid that is taken, of this kind, and two latitudes. Two cells a box: 65,536 cells have at most 32,768 columns or rows
module _ (g : Grid) (low high : ℕ) (m : Mapped g low high) where
  flat : g.d ≡ 2
  flat = band-two g m.band

  pub columns-some : 1 ≤ cells_on g 0
  columns-some = some-cell g m.taken 0 (omega (arith, flat))

  pub rows-some : 1 ≤ cells_on g 1
  rows-some = some-cell g m.taken 1 (omega (arith, flat))

  pub boxes-few : cells_on g 0 * cells_on g 1 ≤ 32768
  unfolding product
  boxes-few =
      let e : cell_count g ≡ 2 * (cells_on g 0 * cells_on g 1) =
      ap (λ (d : ℕ). factorial d * product (cells_on g) d) flat ∙ ap (λ (t : ℕ). 2 * (t * cells_on g 1)) (one-mul (cells_on g 0)) in
      omega (arith, taken-cells g m.taken)

  pub columns-few : cells_on g 0 ≤ 32768
  columns-few =
      let p : cells_on g 0 * 1 ≤ cells_on g 0 * cells_on g 1 = mul-le-mul_left (cells_on g 0) rows-some in
      omega (arith, boxes-few, mul-one (cells_on g 0))

  pub rows_few : cells_on g 1 ≤ 32768
  rows_few =
      let p : 1 * cells_on g 1 ≤ cells_on g 0 * cells_on g 1 = mul-le-mul_right (cells_on g 1) columns-some in
      omega (arith, boxes-few, one-mul (cells_on g 1))

  pub longitude-angle : (v n i : ℕ) → n ≡ cells_on g 0 → i ≡ coord_at g v 0 → (360 * i ≤ far_angle) × (180 * n ≤ far_angle) × (0 < n) × (n ≤ far_angle)
  longitude-angle v n i e h =
      let l : i ≤ n = omega (arith, coord-le g v 0) in
      let f : n ≤ 32768 = omega (arith, columns-few) in
      (omega arith, omega arith, omega (arith, columns-some), omega arith)

  module _ (v n i : ℕ) where
    pub latitude-angle : n ≡ cells_on g 1 → i ≡ coord_at g v 1 → (low * n ≤ 5898240) × ((high - low) * i ≤ 5898240) × (90 * n ≤ far_angle) × (0 < n) × (n ≤ far_angle)
    latitude-angle e h =
        let l : i ≤ n = omega (arith, coord-le g v 1) in
        let f : n ≤ 32768 = omega (arith, rows_few) in
        let a : low * n ≤ 180 * 32768 = mul-le-mul {n₂ = 180} {m₂ = 32768} (omega (arith, m.between, m.most)) f in
        let b : (high - low) * i ≤ 180 * 32768 = mul-le-mul {n₂ = 180} {m₂ = 32768} (omega (arith, m.most)) (omega arith) in
        (omega arith, omega arith, omega arith, omega (arith, rows-some), omega arith)

    pub latitude-is : n ≡ cells_on g 1 → i ≡ coord_at g v 1 → degrees_of (low * n + (high - low) * i) (90 * n) n ≡ latitude_of g low high v
    latitude-is e h = ap (λ (x : ℕ). degrees_of (low * n + (high - low) * x) (90 * n) n) h ∙ ap (λ (y : ℕ). degrees_of (low * y + (high - low) * coord_at g v 1) (90 * y) y) e

  -- (n + 1) * (k + 1) points: at most four for each box
  points-few : product (points_on g) g.d ≤ 131072
  unfolding product
  points-few =
      let n = cells_on g 0 in
      let k = cells_on g 1 in
      let e : product (points_on g) g.d ≡ (n + 1) * (k + 1) = ap (λ (d : ℕ). product (points_on g) d) flat ∙ ap (λ (t : ℕ). t * (k + 1)) (one-mul (n + 1)) in
      let p : (n + 1) * (k + 1) ≤ (2 * n) * (2 * k) = mul-le-mul (omega (arith, columns-some)) (omega (arith, rows-some)) in
      let q : (2 * n) * (2 * k) ≡ 4 * (n * k) = mul_left_comm (2 * n) 2 k ∙ ap (λ (t : ℕ). 2 * t) (mul_assoc 2 n k) ∙ omega arith in
      omega (arith, boxes-few)

  pub corner-few : (x j r : ℕ) → j ≤ 2 → r ≡ corner_of g x j → r < 131072
  corner-few x j r h e = omega (arith, corner-lt g m.taken x j (omega (arith, flat)), points-few)
