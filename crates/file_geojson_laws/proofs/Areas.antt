-- All rings enclose the same exact area, and together they enclose that of the whole box. Assumes nothing.
use mathlib.Core.Path.{◌≡◌, sym, ap, ◌∙◌}
use mathlib.Core.List.{List}
use Prim.Native.Nat.{ℕ, ◌+◌, ◌-◌, ◌*◌}
use native.Mathlib.Nat.{add-mul, mul-add, mul-one, one-mul, mul_assoc, mul_comm, mul_left_comm}
use native.Mathlib.Omega.{arith}
use lib.ListN.{get_or}
use Rattle.quotient.specs.declared.Grid.{Grid}
use Rattle.quotient.specs.Fold.{product, factorial}
use Rattle.quotient.specs.Shape.{cells_on, cell_count}
use Rattle.file_geojson.specs.Kind.{Mapped}
use Rattle.file_geojson.proofs.Vertices.{band-two}
use Rattle.file_geojson_laws.specs.Map.{Ring, lower, upper, east_of, north_of, TwiceArea}

area-is : (x p y q : ℕ) → (x + p) * y + x * (y + q) + p * q ≡ x * y + (x + p) * (y + q)
area-is x p y q = omega (arith, add-mul x p y, mul-add x y q, add-mul x p (y + q), mul-add p y q)

module _ (g : Grid) (low high : ℕ) (c r : ℕ) where
  abbrev up : ℕ → ℕ
  up j = low * cells_on g 1 + (high - low) * j

  up_more : up (r + 1) ≡ up r + (high - low)
  up_more = omega (arith, mul-add (high - low) r 1, mul-one (high - low))

  east-more : 360 * (c + 1) ≡ 360 * c + 360
  east-more = omega arith

  pub same_area : (vs : List ℕ) → Ring g c r vs → TwiceArea (east_of g) (north_of g low high) (get_or vs 0 0) (get_or vs 1 0) (get_or vs 2 0) (360 * (high - low))
  same_area vs (lower p q s) = rw (p.0, p.1, q.0, q.1, s.0, s.1, east-more, up_more) (omega (arith, area-is (360 * c) 360 (up r) (high - low)))
  same_area vs (upper p q s) = rw (p.0, p.1, q.0, q.1, s.0, s.1, east-more, up_more) (omega (arith, area-is (360 * c) 360 (up r) (high - low)))

-- as many cells, of that area each, as the box has: 360 degrees by the height of the band, in the same parts of a degree
pub areas-sum : (g : Grid) (low high : ℕ) → Mapped g low high → cell_count g * (360 * (high - low)) ≡ 2 * (360 * cells_on g 0 * ((high - low) * cells_on g 1))
unfolding product
areas-sum g low high m =
    ap (λ (d : ℕ). factorial d * product (cells_on g) d * (360 * (high - low))) (band-two g m.band) ∙ sorted (cells_on g 0) (cells_on g 1) (high - low)
  where
    sorted : (n k h : ℕ) → 2 * (1 * n * k) * (360 * h) ≡ 2 * (360 * n * (h * k))
    sorted n k h =
        ap (λ (t : ℕ). 2 * (t * k) * (360 * h)) (one-mul n)
        ∙ mul_assoc 2 (n * k) (360 * h)
        ∙ ap (λ (t : ℕ). 2 * t) (mul_left_comm (n * k) 360 h ∙ ap (λ (t : ℕ). 360 * t) (mul_assoc n k h ∙ ap (λ (t : ℕ). n * t) (mul_comm k h)) ∙ sym (mul_assoc 360 n (h * k)))
