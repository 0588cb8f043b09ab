-- Latitudes as signed numbers and in degrees from the South Pole; the kind of grid that is taken. Assumes nothing.
use mathlib.Core.Path.{◌≡◌, refl, sym, ap, subst, ◌∙◌}
use mathlib.Core.Bool.{Bool, true, false, cond, not, ◌&&◌}
use mathlib.Core.List.{List}
use Prim.Native.Nat.{ℕ, suc, ◌-◌, ◌≤◌, ◌<◌}
use native.Mathlib.Nat.{add_comm}
use native.Mathlib.Omega.{arith}
use lib.Dec.{T}
use lib.IntN.{ℤ, pos, negsuc, nat_abs, ◌+ℤ◌}
use lib.Signed.{lt_z, non_neg}
use mir.Val.{SFits, Fits, to_z, of_z}
use mir.Facts.{to_z-of_z}
use mir.Syntax.{w32}
use borrow.Author.Tests.{ltb-true, ltb-false, le-ltb, eq-eqb, ne_eqb}
use Rattle.refusal.specs.Says.{Counted}
use Rattle.quotient.specs.declared.Grid.{Grid}
use Rattle.quotient.specs.declared.Axis.{Axis}
use Rattle.quotient.specs.Shape.{axis_of, closed_of, mask_of, mask_at}
use Rattle.file_geojson.specs.Kind.{band_grid, from_pole, latitudes_fit}
use Rattle.file_geojson.specs.Work.{Ended}

no_way : {X : Type 0} → false ≡ true → X
no_way e = let z : ◌≡◌ {A = ℕ} 0 1 = ap (λ (b : Bool). cond b 1 0) e in absurd (omega arith)

-- ---- the two latitudes

-- the tests that a pair of latitudes passes
pub record Fitting (south north : ℤ) : Type 0 where
  pub from-south : lt_z south (negsuc 89) ≡ false
  pub to-north : lt_z (pos 90) north ≡ false
  pub apart : lt_z south north ≡ true

fitting : (south north : ℤ) (a b c : Bool) → lt_z south (negsuc 89) ≡ a → lt_z (pos 90) north ≡ b → lt_z south north ≡ c → (not a && (not b && c)) ≡ true → Fitting south north
fitting south north true b c p q r e = no_way e
fitting south north false true c p q r e = no_way e
fitting south north false false true p q r e = record { from-south = p; to-north = q; apart = r }
fitting south north false false false p q r e = no_way e

pub fitting-of : (south north : ℤ) → latitudes_fit south north ≡ true → Fitting south north
fitting-of south north e = fitting south north (lt_z south (negsuc 89)) (lt_z (pos 90) north) (lt_z south north) refl refl refl e

-- one above a low latitude is no lower, and one below a high one no higher
pub north-above : (south north : ℤ) → Fitting south north → lt_z north (negsuc 89) ≡ false
north-above south (pos n) f = refl
north-above (pos s) (negsuc n) f = no_way f.apart
north-above (negsuc s) (negsuc n) f = le-ltb 89 n (omega (arith, ltb-false 89 s f.from-south, ltb-true n s f.apart))

pub south-below : (south north : ℤ) → Fitting south north → lt_z (pos 90) south ≡ false
south-below (negsuc s) north f = refl
south-below (pos s) (pos n) f = le-ltb 90 s (omega (arith, ltb-false 90 n f.to-north, ltb-true s n f.apart))
south-below (pos s) (negsuc n) f = no_way f.apart

-- in degrees from the South Pole they stand apart too
poles-fit : (south north : ℤ) → Fitting south north → (from_pole south < from_pole north) × (from_pole north ≤ 180)
poles-fit (pos s) (pos n) f = (omega (arith, ltb-true s n f.apart), omega (arith, ltb-false 90 n f.to-north))
poles-fit (pos s) (negsuc n) f = no_way f.apart
poles-fit (negsuc s) (pos n) f = (omega arith, omega (arith, ltb-false 90 n f.to-north))
poles-fit (negsuc s) (negsuc n) f = (omega (arith, ltb-true n s f.apart, ltb-false 89 s f.from-south), omega arith)

pub poles-apart : (south north : ℤ) → latitudes_fit south north ≡ true → (from_pole south < from_pole north) × (from_pole north ≤ 180)
poles-apart south north e = poles-fit south north (fitting-of south north e)

-- what the tests of the code say
module _ (south north : ℤ) (fs : SFits w32 south) (fn : SFits w32 north) where
  pub beyond-south : lt_z (to_z w32 (of_z w32 south)) (negsuc 89) ≡ true → false ≡ latitudes_fit south north
  beyond-south e = rw (ap (λ (y : ℤ). lt_z y (negsuc 89)) (sym (to_z-of_z fs)) ∙ e)

  module _ (e : lt_z (to_z w32 (of_z w32 south)) (negsuc 89) ≡ false) where
    pub beyond-north : lt_z (pos 90) (to_z w32 (of_z w32 north)) ≡ true → false ≡ latitudes_fit south north
    beyond-north f = rw (ap (λ (y : ℤ). lt_z y (negsuc 89)) (sym (to_z-of_z fs)) ∙ e, ap (λ (y : ℤ). lt_z (pos 90) y) (sym (to_z-of_z fn)) ∙ f)

    pub fit-told : lt_z (pos 90) (to_z w32 (of_z w32 north)) ≡ false → lt_z (to_z w32 (of_z w32 south)) (to_z w32 (of_z w32 north)) ≡ latitudes_fit south north
    fit-told f =
        rw (ap (λ (y : ℤ). lt_z y (negsuc 89)) (sym (to_z-of_z fs)) ∙ e, ap (λ (y : ℤ). lt_z (pos 90) y) (sym (to_z-of_z fn)) ∙ f)
        (ap (λ (y : ℤ). lt_z y (to_z w32 (of_z w32 north))) (to_z-of_z fs) ∙ ap (λ (y : ℤ). lt_z south y) (to_z-of_z fn))

-- what a call is handed as a signed number is what the machine reads back from its bits
module _ (south north : ℤ) (fs : SFits w32 south) (fn : SFits w32 north) where
  seen : latitudes_fit (to_z w32 (of_z w32 south)) (to_z w32 (of_z w32 north)) ≡ latitudes_fit south north
  seen = ap (λ (y : ℤ). latitudes_fit y (to_z w32 (of_z w32 north))) (to_z-of_z fs) ∙ ap (λ (y : ℤ). latitudes_fit south y) (to_z-of_z fn)

  pub fit_of : {t : Bool} → t ≡ latitudes_fit (to_z w32 (of_z w32 south)) (to_z w32 (of_z w32 north)) → t ≡ true → latitudes_fit south north ≡ true
  fit_of e h = sym seen ∙ sym e ∙ h

  pub unfit-of : {t : Bool} → t ≡ latitudes_fit (to_z w32 (of_z w32 south)) (to_z w32 (of_z w32 north)) → t ≡ false → latitudes_fit south north ≡ false
  unfit-of e h = sym seen ∙ sym e ∙ h

pub pole-south : (south north : ℤ) → SFits w32 south → latitudes_fit south north ≡ true → (lt_z (to_z w32 (of_z w32 south)) (negsuc 89) ≡ false) × (lt_z (pos 90) (to_z w32 (of_z w32 south)) ≡ false)
pole-south south north f e =
    let t = fitting-of south north e in
    (ap (λ (y : ℤ). lt_z y (negsuc 89)) (to_z-of_z f) ∙ t.from-south, ap (λ (y : ℤ). lt_z (pos 90) y) (to_z-of_z f) ∙ south-below south north t)

pub pole-north : (south north : ℤ) → SFits w32 north → latitudes_fit south north ≡ true → (lt_z (to_z w32 (of_z w32 north)) (negsuc 89) ≡ false) × (lt_z (pos 90) (to_z w32 (of_z w32 north)) ≡ false)
pole-north south north f e =
    let t = fitting-of south north e in
    (ap (λ (y : ℤ). lt_z y (negsuc 89)) (to_z-of_z f) ∙ north-above south north t, ap (λ (y : ℤ). lt_z (pos 90) y) (to_z-of_z f) ∙ t.to-north)

pub same-latitudes : {g : Grid} {south north : ℤ} {r : Counted} {bytes bytes' : List ℕ} → SFits w32 south → SFits w32 north → Ended g (to_z w32 (of_z w32 south)) (to_z w32 (of_z w32 north)) r bytes bytes' →
    Ended g south north r bytes bytes'
same-latitudes {g} {south} {north} {r} {bytes} {bytes'} fs fn d =
    subst (λ (y : ℤ). Ended g south y r bytes bytes') (to_z-of_z fn) (subst (λ (y : ℤ). Ended g y (to_z w32 (of_z w32 north)) r bytes bytes') (to_z-of_z fs) d)

-- ---- one latitude

pub between : (z : ℤ) → lt_z z (negsuc 89) ≡ false → lt_z (pos 90) z ≡ false → (z +ℤ pos 90 ≡ pos (from_pole z)) × (from_pole z ≤ 180)
between (pos n) e f = (ap pos (add_comm n 90), omega (arith, ltb-false 90 n f))
between (negsuc n) e f =
    let h : n ≤ 89 = omega (arith, ltb-false 89 n e) in
    (rw (le-ltb 90 (suc n) (omega arith)) (ap pos (let q : 90 - suc n ≡ 89 - n = omega arith in q)), omega arith)

module _ (z : ℤ) (f : SFits w32 z) (e : lt_z z (negsuc 89) ≡ false) (h : lt_z (pos 90) z ≡ false) where
  pole-both : (z +ℤ pos 90 ≡ pos (from_pole z)) × (from_pole z ≤ 180)
  pole-both = between z e h

  pole-sum : to_z w32 (of_z w32 z) +ℤ pos 90 ≡ pos (from_pole z)
  pole-sum = ap (λ (y : ℤ). y +ℤ pos 90) (to_z-of_z f) ∙ pole-both.0

  pole-whole : SFits w32 (pos (from_pole z))
  pole-whole = record { sfits = omega (arith, pole-both.1) }

  pub pole-fits : SFits w32 (to_z w32 (of_z w32 z) +ℤ pos 90)
  pole-fits = subst (λ (y : ℤ). SFits w32 y) (sym pole-sum) pole-whole

  pole-back : to_z w32 (of_z w32 (to_z w32 (of_z w32 z) +ℤ pos 90)) ≡ pos (from_pole z)
  pole-back = to_z-of_z pole-fits ∙ pole-sum

  pub pole-cast : T (non_neg (to_z w32 (of_z w32 (to_z w32 (of_z w32 z) +ℤ pos 90)))) × Fits w32 (nat_abs (to_z w32 (of_z w32 (to_z w32 (of_z w32 z) +ℤ pos 90))))
  pole-cast =
      subst (λ (y : ℤ). T (non_neg y) × Fits w32 (nat_abs y)) (sym pole-back)
      (tt, record { fits = omega (arith, pole-both.1) })

  pub pole-is : nat_abs (to_z w32 (of_z w32 (to_z w32 (of_z w32 z) +ℤ pos 90))) ≡ from_pole z
  pole-is = ap nat_abs pole-back

-- ---- the kind of grid

module _ (g : Grid) where
  pub band-flat : (g.d ≡ 2 → ⊥) → false ≡ band_grid g
  band-flat h = rw (ne_eqb g.d 2 h)

  module _ (x : Axis) (e : g.d ≡ 2) (p : x ≡ axis_of g 0) where
    pub band-open : (t : Bool) → t ≡ closed_of x.glue → t ≡ false → false ≡ band_grid g
    band-open t q h = rw (eq-eqb g.d 2 e, ap (λ (a : Axis). closed_of a.glue) (sym p) ∙ sym q ∙ h)

    module _ (t : Bool) (q : t ≡ closed_of x.glue) (h : t ≡ true) (m : ℕ) (r : m ≡ mask_of x.glue) where
      pub band-turned : (m ≡ 0 → ⊥) → false ≡ band_grid g
      band-turned f =
          rw (eq-eqb g.d 2 e, ap (λ (a : Axis). closed_of a.glue) (sym p) ∙ sym q ∙ h, ne_eqb (mask_at g 0) 0 (λ i. f (r ∙ ap (λ (a : Axis). mask_of a.glue) p ∙ i)))

      pub band-told : (y : Axis) (u : Bool) → m ≡ 0 → y ≡ axis_of g 1 → u ≡ closed_of y.glue → not u ≡ band_grid g
      band-told y u i s v =
          rw (eq-eqb g.d 2 e, ap (λ (a : Axis). closed_of a.glue) (sym p) ∙ sym q ∙ h, eq-eqb (mask_at g 0) 0 (ap (λ (a : Axis). mask_of a.glue) (sym p) ∙ sym r ∙ i))
          (ap not (v ∙ ap (λ (a : Axis). closed_of a.glue) s))
