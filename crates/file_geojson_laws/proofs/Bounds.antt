-- What is read from the file lies on the map: longitudes from -180 to 180, latitudes from south to north. Assumes nothing.
use mathlib.Core.Path.{◌≡◌, ap}
use Prim.Native.Nat.{ℕ, ◌+◌, ◌-◌, ◌*◌, ◌≤◌}
use native.Mathlib.Nat.{add-mul, mul-le-mul_left}
use native.Mathlib.Omega.{arith}
use Rattle.quotient.specs.declared.Grid.{Grid}
use Rattle.quotient.specs.Shape.{cells_on}
use Rattle.quotient.specs.Reduce.{coord_at}
use Rattle.quotient.proofs.Points.{coord-le}
use Rattle.file_writing.specs.Six.{million}
use Rattle.file_geojson.specs.Kind.{Mapped}
use Rattle.file_geojson.proofs.Angles.{columns-some, rows-some, columns-few, rows_few}
use Rattle.file_geojson_laws.specs.Map.{printed_of, printed_east, printed_north}
use Rattle.file_geojson_laws.proofs.Rounding.{printed-up, printed-whole}

module _ (g : Grid) (low high : ℕ) (m : Mapped g low high) (v : ℕ) where
  -- with 180 degrees added: 0 to 360
  pub east-within : printed_east g v ≤ 360 * million
  east-within =
      let n = cells_on g 0 in
      let u : printed_of (360 * coord_at g v 0) (180 * n) n ≤ printed_of (360 * n) (180 * n) n =
      printed-up n (columns-some g low high m) (omega (arith, columns-few g low high m)) (180 * n) (omega arith) (360 * coord_at g v 0) (360 * n) (omega (arith, coord-le g v 0)) in
      omega (arith, printed-whole 360 180 n (columns-some g low high m) (omega arith))

  -- and from south to north
  pub north-from : (90 + low) * million ≤ printed_north g low high v
  north-from =
      let n = cells_on g 1 in
      let u : printed_of (low * n) (90 * n) n ≤ printed_of (low * n + (high - low) * coord_at g v 1) (90 * n) n =
      printed-up n (rows-some g low high m) (omega (arith, rows_few g low high m)) (90 * n) (omega arith) (low * n) (low * n + (high - low) * coord_at g v 1) (omega arith) in
      let e : (180 + low - 90) * million ≡ (90 + low) * million = ap (λ (t : ℕ). t * million) (let q : 180 + low - 90 ≡ 90 + low = omega arith in q) in
      omega (arith, printed-whole low 90 n (rows-some g low high m) (omega arith))

  pub north-to : printed_north g low high v ≤ (90 + high) * million
  north-to =
      let n = cells_on g 1 in
      let a : (high - low) * coord_at g v 1 ≤ (high - low) * n = mul-le-mul_left (high - low) (coord-le g v 1) in
      let b : (low + (high - low)) * n ≡ low * n + (high - low) * n = add-mul low (high - low) n in
      let t : low + (high - low) ≡ high = omega (arith, m.between) in
      let c : (low + (high - low)) * n ≡ high * n = ap (λ (x : ℕ). x * n) t in
      let u : printed_of (low * n + (high - low) * coord_at g v 1) (90 * n) n ≤ printed_of (high * n) (90 * n) n =
      printed-up n (rows-some g low high m) (omega (arith, rows_few g low high m)) (90 * n) (omega arith) (low * n + (high - low) * coord_at g v 1) (high * n) (omega arith) in
      let e : (180 + high - 90) * million ≡ (90 + high) * million = ap (λ (x : ℕ). x * million) (let q : 180 + high - 90 ≡ 90 + high = omega arith in q) in
      omega (arith, printed-whole high 90 n (rows-some g low high m) (omega arith))
