-- What is printed: the four edges of the map, and one feature for each cell. Assumes nothing.
use mathlib.Core.Path.{◌≡◌, refl, sym, ap, ◌∙◌}
use mathlib.Core.Logic.{⊎_elim}
use mathlib.Core.List.{List, [], ◌∷◌, ◌++◌}
use Prim.Native.Nat.{ℕ, ◌+◌, ◌-◌, ◌*◌, ◌%◌, ◌≤◌, ◌<◌}
use native.Mathlib.Nat.{add-mul, mul-zero, mul_right_comm, mul-le-mul_right, mul-lt-mul_of_pos_right, mul-div_cancel, mul-mod_left}
use native.Mathlib.Omega.{arith}
use borrow.Author.Tests.{lt-ltb, le-ltb}
use lib.ListN.{length, get_or, length-map}
use Rattle.lists.proofs.Laws.{map_at}
use Rattle.text.specs.Decimal.{digits_down, decimal_down, decimal}
use Rattle.quotient.specs.declared.Grid.{Grid}
use Rattle.quotient.specs.Shape.{cells_on, cell_count}
use Rattle.quotient.specs.Reduce.{coord_at}
use Rattle.grid_words.specs.Cells.{grid_cells}
use Rattle.file_writing.specs.Six.{million, six_decimals}
use Rattle.file_geojson.specs.Degrees.{nearest, fraction_of, degrees_of}
use Rattle.file_geojson.specs.File.{longitude_of, latitude_of, feature_of, features_of}
use Rattle.file_geojson.specs.Kind.{Mapped}
use Rattle.file_geojson.proofs.Angles.{columns-some, rows-some, degrees-below, degrees-above}
use Rattle.file_geojson.proofs.Listing.{cells_long}
use Rattle.quotient.proofs.Laws.{lt-or-ge}
use Rattle.file_geojson_laws.specs.Map.{six_zeros, whole_degrees}
use Rattle.file_geojson_laws.proofs.Rounding.{nearest-whole, differ}

-- 180.000000
half-printed : six_decimals (180 * million) ≡ 49 ∷ 56 ∷ 48 ∷ 46 ∷ 48 ∷ 48 ∷ 48 ∷ 48 ∷ 48 ∷ 48 ∷ []
unfolding digits_down decimal_down
half-printed = refl

half_is : (n : ℕ) → 0 < n → fraction_of (180 * n) n ≡ 49 ∷ 56 ∷ 48 ∷ 46 ∷ 48 ∷ 48 ∷ 48 ∷ 48 ∷ 48 ∷ 48 ∷ []
half_is n h =
    let e : 180 * n * million ≡ 180 * million * n = omega arith in
    ap six_decimals (ap (λ (x : ℕ). nearest x n) e ∙ nearest-whole (180 * million) n h) ∙ half-printed

module _ (g : Grid) (low high : ℕ) (m : Mapped g low high) (v : ℕ) where
  -- the last column is printed as 180.000000
  pub last-column : coord_at g v 0 ≡ cells_on g 0 → longitude_of g v ≡ 49 ∷ 56 ∷ 48 ∷ 46 ∷ 48 ∷ 48 ∷ 48 ∷ 48 ∷ 48 ∷ 48 ∷ []
  last-column e =
      ap (λ (i : ℕ). degrees_of (360 * i) (180 * cells_on g 0) (cells_on g 0)) e
      ∙ sym (degrees-above (360 * cells_on g 0) (180 * cells_on g 0) (cells_on g 0) (omega arith))
      ∙ ap (λ (x : ℕ). fraction_of x (cells_on g 0)) (let q : 360 * cells_on g 0 - 180 * cells_on g 0 ≡ 180 * cells_on g 0 = omega arith in q)
      ∙ half_is (cells_on g 0) (columns-some g low high m)

  -- the first column as -180.000000
  pub first-column : coord_at g v 0 ≡ 0 → longitude_of g v ≡ 45 ∷ 49 ∷ 56 ∷ 48 ∷ 46 ∷ 48 ∷ 48 ∷ 48 ∷ 48 ∷ 48 ∷ 48 ∷ []
  first-column e =
      ap (λ (i : ℕ). degrees_of (360 * i) (180 * cells_on g 0) (cells_on g 0)) e
      ∙ sym (degrees-below 0 (180 * cells_on g 0) (cells_on g 0) (omega (arith, columns-some g low high m)))
      ∙ ap (λ (x : ℕ). 45 ∷ fraction_of x (cells_on g 0)) (let q : 180 * cells_on g 0 - 0 ≡ 180 * cells_on g 0 = omega arith in q)
      ∙ ap (λ (l : List ℕ). 45 ∷ l) (half_is (cells_on g 0) (columns-some g low high m))

-- ---- the first row is printed as south, the last as north

seconds : (k : ℕ) → six_decimals (k * million) ≡ decimal k ++ six_zeros
unfolding digits_down
seconds k =
    ap (λ (n : ℕ). decimal n ++ (46 ∷ digits_down 5 (k * million % million))) (mul-div_cancel k {n = million} (omega arith))
    ∙ ap (λ (n : ℕ). decimal k ++ (46 ∷ digits_down 5 n)) (mul-mod_left k million)

whole_is : (k den : ℕ) → 0 < den → fraction_of (k * den) den ≡ decimal k ++ six_zeros
whole_is k den h = ap six_decimals (ap (λ (x : ℕ). nearest x den) (mul_right_comm k den million) ∙ nearest-whole (k * million) den h) ∙ seconds k

degrees-whole : (k den : ℕ) → 0 < den → degrees_of (k * den) (90 * den) den ≡ whole_degrees k
degrees-whole k den h =
    ⊎_elim
    (λ (p : k < 90).
    sym (degrees-below (k * den) (90 * den) den (mul-lt-mul_of_pos_right {m = k} {n = 90} {k = den} p h))
    ∙ ap (λ (x : ℕ). 45 ∷ fraction_of x den) (differ k 90 den (omega arith))
    ∙ ap (λ (l : List ℕ). 45 ∷ l) (whole_is (90 - k) den h)
    ∙ sym (below-whole k p))
    (λ (p : 90 ≤ k).
    sym (degrees-above (k * den) (90 * den) den (mul-le-mul_right den p))
    ∙ ap (λ (x : ℕ). fraction_of x den) (differ 90 k den p)
    ∙ whole_is (k - 90) den h
    ∙ sym (above-whole k p))
    (lt-or-ge k 90)
  where
    below-whole : (k : ℕ) → k < 90 → whole_degrees k ≡ 45 ∷ (decimal (90 - k) ++ six_zeros)
    below-whole k p = rw (lt-ltb k 90 p)

    above-whole : (k : ℕ) → 90 ≤ k → whole_degrees k ≡ decimal (k - 90) ++ six_zeros
    above-whole k p = rw (le-ltb k 90 p)

module _ (g : Grid) (low high : ℕ) (m : Mapped g low high) (v : ℕ) where
  pub first-row : coord_at g v 1 ≡ 0 → latitude_of g low high v ≡ whole_degrees low
  first-row e =
      ap (λ (j : ℕ). degrees_of (low * cells_on g 1 + (high - low) * j) (90 * cells_on g 1) (cells_on g 1)) e
      ∙ ap (λ (x : ℕ). degrees_of x (90 * cells_on g 1) (cells_on g 1)) (let q : low * cells_on g 1 + (high - low) * 0 ≡ low * cells_on g 1 = omega (arith, mul-zero (high - low)) in q)
      ∙ degrees-whole low (cells_on g 1) (rows-some g low high m)

  pub last_row : coord_at g v 1 ≡ cells_on g 1 → latitude_of g low high v ≡ whole_degrees high
  last_row e =
      ap (λ (j : ℕ). degrees_of (low * cells_on g 1 + (high - low) * j) (90 * cells_on g 1) (cells_on g 1)) e
      ∙ ap (λ (x : ℕ). degrees_of x (90 * cells_on g 1) (cells_on g 1))
      (let t : low + (high - low) ≡ high = omega (arith, m.between) in sym (add-mul low (high - low) (cells_on g 1)) ∙ ap (λ (x : ℕ). x * cells_on g 1) t)
      ∙ degrees-whole high (cells_on g 1) (rows-some g low high m)

-- what is printed reads only the column and the row, so rings that share a corner print it alike
pub alike-east : (g : Grid) (v w : ℕ) → coord_at g v 0 ≡ coord_at g w 0 → longitude_of g v ≡ longitude_of g w
alike-east g v w e = ap (λ (i : ℕ). degrees_of (360 * i) (180 * cells_on g 0) (cells_on g 0)) e

pub alike-north : (g : Grid) (low high v w : ℕ) → coord_at g v 1 ≡ coord_at g w 1 → latitude_of g low high v ≡ latitude_of g low high w
alike-north g low high v w e = ap (λ (j : ℕ). degrees_of (low * cells_on g 1 + (high - low) * j) (90 * cells_on g 1) (cells_on g 1)) e

-- ---- one feature for each grid cell

pub one-feature-each : (g : Grid) (low high : ℕ) → Mapped g low high → (length (features_of g low high) ≡ cell_count g) × (length (features_of g low high) ≡ length (grid_cells g))
one-feature-each g low high m = let e = length-map (grid_cells g) (feature_of g low high) in (e ∙ cells_long g low high m, e)

-- feature number i is that of grid cell number i
pub feature-at : (g : Grid) (low high i : ℕ) → i < length (grid_cells g) → get_or (features_of g low high) i [] ≡ feature_of g low high (get_or (grid_cells g) i [])
feature-at g low high i h = map_at (feature_of g low high) (grid_cells g) i [] [] h
