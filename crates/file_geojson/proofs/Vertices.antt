-- The vertices of a band: column and row before gluing, the last column on the first one. Assumes nothing.
use mathlib.Core.Path.{◌≡◌, refl, sym, ap, ◌∙◌}
use mathlib.Core.Bool.{Bool, true, false, not, ◌&&◌}
use Prim.Native.Nat.{ℕ, ◌+◌, ◌*◌, ◌%◌, ◌<◌}
use native.Mathlib.Omega.{arith}
use native.Mathlib.Nat.{one-mul, zero-add}
use lib.Dec.{eqb}
use borrow.Author.Tests.{eqb-true}
use Rattle.quotient.specs.declared.Grid.{Grid}
use Rattle.quotient.specs.Fold.{product, member}
use Rattle.quotient.specs.Shape.{cells_on, closed_at, mask_at, glued_on}
use Rattle.quotient.specs.Reduce.{coord_at, wrapped_at, flips_at, reflected_by, folded_at, vertex_of}
use Rattle.quotient.specs.Points.{from_digits, points_of}
use Rattle.quotient.proofs.Onto.{vertex-is}
use Rattle.file_geojson.specs.Kind.{band_grid}

both_left : (a b : Bool) → (a && b) ≡ true → a ≡ true
both_left true b e = refl
both_left false b e = e

both_right : (a b : Bool) → (a && b) ≡ true → b ≡ true
both_right true b e = e
both_right false b e = let z : ◌≡◌ {A = ℕ} 0 1 = cc in absurd (omega arith)

not_yes : (a : Bool) → not a ≡ true → a ≡ false
not_yes true e = sym e
not_yes false e = refl

and-false : (a b : Bool) → b ≡ false → (a && b) ≡ false
and-false true b e = e
and-false false b e = refl

module _ (g : Grid) (band : band_grid g ≡ true) where
  pub band-two : g.d ≡ 2
  band-two = eqb-true g.d 2 (both_left (eqb g.d 2) _ band)

  rest : (closed_at g 0 && (eqb (mask_at g 0) 0 && not (closed_at g 1))) ≡ true
  rest = both_right (eqb g.d 2) (closed_at g 0 && (eqb (mask_at g 0) 0 && not (closed_at g 1))) band

  pub band-around : closed_at g 0 ≡ true
  band-around = both_left (closed_at g 0) _ rest

  pub band-straight : mask_at g 0 ≡ 0
  band-straight = eqb-true (mask_at g 0) 0 (both_left (eqb (mask_at g 0) 0) _ (both_right (closed_at g 0) (eqb (mask_at g 0) 0 && not (closed_at g 1)) rest))

  pub band-open : closed_at g 1 ≡ false
  band-open = not_yes (closed_at g 1) (both_right (eqb (mask_at g 0) 0) (not (closed_at g 1)) (both_right (closed_at g 0) (eqb (mask_at g 0) 0 && not (closed_at g 1)) rest))

  -- nothing is reflected
  no_member : (k : ℕ) → member 0 k ≡ false → member (mask_at g 0) k ≡ false
  no_member k e = ap (λ (m : ℕ). member m k) band-straight ∙ e

  flips-first : (v k : ℕ) → member 0 k ≡ false → flips_at g v 0 k ≡ false
  flips-first v k e = and-false (wrapped_at g v 0) (member (mask_at g 0) k) (no_member k e)

  flips-second : (v k : ℕ) → flips_at g v 1 k ≡ false
  flips-second v k = rw band-open

  reflected : (v k : ℕ) → member 0 k ≡ false → reflected_by g v k g.d ≡ coord_at g v k
  unfolding reflected_by
  reflected v k e = ap (λ (d : ℕ). reflected_by g v k d) band-two ∙ (rw (flips-second v k, flips-first v k e))

  folded-column : (v : ℕ) → folded_at g v 0 ≡ coord_at g v 0 % cells_on g 0
  folded-column v = rw (band-around, reflected v 0 refl)

  folded-row : (v : ℕ) → folded_at g v 1 ≡ coord_at g v 1
  folded-row v = rw (band-open, reflected v 1 refl)

  glued-columns : glued_on g 0 ≡ cells_on g 0
  glued-columns = rw band-around

  pub vertex-band : (v : ℕ) → v < points_of g → vertex_of g v ≡ coord_at g v 0 % cells_on g 0 + cells_on g 0 * coord_at g v 1
  unfolding from_digits product
  vertex-band v h =
      vertex-is g v h
      ∙ ap (λ (d : ℕ). from_digits (glued_on g) (folded_at g v) d) band-two
      ∙ plain (folded_at g v 0) (glued_on g 0) (folded_at g v 1)
      ∙ ap (λ (c : ℕ). c + glued_on g 0 * folded_at g v 1) (folded-column v)
      ∙ ap (λ (n : ℕ). coord_at g v 0 % cells_on g 0 + n * folded_at g v 1) glued-columns
      ∙ ap (λ (r : ℕ). coord_at g v 0 % cells_on g 0 + cells_on g 0 * r) (folded-row v)
    where
      plain : (c n r : ℕ) → 0 + 1 * c + 1 * n * r ≡ c + n * r
      plain c n r = ap (λ (t : ℕ). 0 + 1 * c + t * r) (one-mul n) ∙ ap (λ (t : ℕ). t + n * r) (zero-add (1 * c) ∙ one-mul c)
