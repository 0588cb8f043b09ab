-- How many bytes the parts of the file take at most. Assumes nothing.
use mathlib.Core.Bool.{Bool, true, false, cond}
use mathlib.Core.List.{List, [], ◌∷◌, ◌++◌}
use Prim.Native.Nat.{ℕ, ◌+◌, ◌-◌, ◌*◌, ◌≤◌}
use native.Mathlib.Omega.{arith}
use lib.Dec.{ltb, eqb}
use lib.ListN.{length, get_or, length-append}
use Rattle.text.specs.Decimal.{decimal}
use Rattle.text.proofs.Decimals.{decimal-long}
use Rattle.file_writing.specs.Six.{million}
use Rattle.file_writing.specs.Wrote.{Wrote}
use Rattle.file_writing.proofs.Down.{six-long}
use Rattle.quotient.specs.declared.Grid.{Grid}
use Rattle.file_geojson.specs.Degrees.{nearest, fraction_of, degrees_of}
use Rattle.file_geojson.specs.File.{comma_each, joined, longitude_of, latitude_of, position_of, ring_corners, ring_of, mesh_number, feature_of}

one_of : (b : Bool) (x y : List ℕ) (m : ℕ) → length x ≤ m → length y ≤ m → length (cond b x y) ≤ m
one_of true x y m h l = h
one_of false x y m h l = l

pub degrees-long : (a b den : ℕ) → length (degrees_of a b den) ≤ 18
unfolding degrees_of
degrees-long a b den =
    one_of (ltb a b) (45 ∷ fraction_of (b - a) den) (fraction_of (a - b) den) 18 (omega (arith, six-long (nearest ((b - a) * million) den))) (omega (arith, six-long (nearest ((a - b) * million) den)))

module _ (g : Grid) (low high : ℕ) where
  pub longitude-long : (v : ℕ) → length (longitude_of g v) ≤ 18
  longitude-long v = degrees-long _ _ _

  pub latitude-long : (v : ℕ) → length (latitude_of g low high v) ≤ 18
  latitude-long v = degrees-long _ _ _

  pub position-long : (v : ℕ) → length (position_of g low high v) ≤ 39
  unfolding position_of
  position-long v =
      omega (arith, longitude-long v, latitude-long v, length-append (longitude_of g v) (44 ∷ (latitude_of g low high v ++ (93 ∷ []))), length-append (latitude_of g low high v) (93 ∷ []))

  pub ring_long : (a b c e : ℕ) → length (ring_of g low high (a ∷ b ∷ c ∷ e ∷ [])) ≤ 161
  unfolding ring_of joined comma_each
  ring_long a b c e =
      simp (length-append) (omega (arith, position-long a, position-long b, position-long c, position-long e))

  round-long : (t : Bool) (a b c : ℕ) → length (ring_of g low high (cond t (a ∷ b ∷ c ∷ a ∷ []) (a ∷ c ∷ b ∷ a ∷ []))) ≤ 161
  round-long true a b c = ring_long a b c a
  round-long false a b c = ring_long a c b a

  pub cell-ring-long : (w : List ℕ) → length (ring_of g low high (ring_corners w)) ≤ 161
  cell-ring-long w = round-long (eqb (get_or w 1 0) (get_or w 0 0 + 1)) (get_or w 0 0) (get_or w 1 0) (get_or w 2 0)

  pub feature-long : (w : List ℕ) → length (feature_of g low high w) ≤ 275
  unfolding feature_of
  feature-long w = simp length-append (omega (arith, decimal-long 9 (mesh_number g w), cell-ring-long w))

  -- ---- the place after each part
  module _ {at : ℕ} {to : List ℕ} {r : ℕ} {to' : List ℕ} where
    pub longitude-end : (v : ℕ) → Wrote (longitude_of g v) at to r to' → r ≤ at + 18
    longitude-end v a = omega (arith, a.next, longitude-long v)

    pub latitude-end : (v : ℕ) → Wrote (latitude_of g low high v) at to r to' → r ≤ at + 18
    latitude-end v a = omega (arith, a.next, latitude-long v)

    pub position-end : (v : ℕ) → Wrote (position_of g low high v) at to r to' → r ≤ at + 39
    position-end v a = omega (arith, a.next, position-long v)

    pub next-end : (v : ℕ) → Wrote (44 ∷ position_of g low high v) at to r to' → r ≤ at + 40
    next-end v a = omega (arith, a.next, position-long v)

    pub cell-ring-end : (w : List ℕ) → Wrote (ring_of g low high (ring_corners w)) at to r to' → r ≤ at + 161
    cell-ring-end w a = omega (arith, a.next, cell-ring-long w)

    pub feature-end : (w : List ℕ) → Wrote (feature_of g low high w) at to r to' → r ≤ at + 275
    feature-end w a = omega (arith, a.next, feature-long w)

pub number-end : (n : ℕ) {at : ℕ} {to : List ℕ} {r : ℕ} {to' : List ℕ} → Wrote (decimal n) at to r to' → r ≤ at + 10
number-end n a = omega (arith, a.next, decimal-long 9 n)
