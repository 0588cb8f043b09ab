-- A point of the child's lattice by b is the mean of b corners of the child, one for each level below b; and the corner of a level is found from the
-- point's place in the cell's lattice by a * b alone. Assumes nothing.
use mathlib.Core.Path.{◌≡◌, sym, ap, ◌∙◌}
use mathlib.Core.List.{List, [], ◌∷◌, map}
use Prim.Native.Nat.{ℕ, zero, suc, ◌+◌, ◌*◌, ◌-◌, ◌/◌, ◌≤◌, ◌<◌}
use native.Mathlib.Nat.{not-suc-le-zero, le_of_suc-le-suc, div-eq_of_lt-le}
use native.Mathlib.Decide.{dec_lt}
use native.Mathlib.Omega.{arith}
use lib.ListN.{length, get_or}
use Rattle.lists.specs.Tables.{tab, sum}
use Rattle.refine_lattice.specs.Lattice.{Falls, dot, weights}
use Rattle.lists.proofs.Tables.{length-tab, get_or-tab, tab-ext, map-tab}
use Rattle.refine_lattice.proofs.Tab.{step, step-le, step-yes, step-no}
use Rattle.lists.proofs.Sums.{sum-ext, sum-const, sum-split}
use Rattle.refine_lattice.proofs.Codes.{Code, corner, falls-top, falls-corner}
use Rattle.refine_lattice.proofs.Weights.{Base, Time}

-- how many coordinates are above the level
abbrev pub lead : List ℕ → ℕ → ℕ
lead [] η = 0
lead (x ∷ s) η = step η x * suc (lead s η)

lead-yes : (x : ℕ) (s : List ℕ) (η : ℕ) → η < x → lead (x ∷ s) η ≡ suc (lead s η)
lead-yes x s η h = ap (λ (y : ℕ). y * suc (lead s η)) (step-yes η x h) ∙ omega arith

lead-no : (x : ℕ) (s : List ℕ) (η : ℕ) → x ≤ η → lead (x ∷ s) η ≡ 0
lead-no x s η h = ap (λ (y : ℕ). y * suc (lead s η)) (step-no η x h) ∙ omega arith

pub lead-le : (s : List ℕ) (η : ℕ) → lead s η ≤ length s
lead-le [] η = omega arith
lead-le (x ∷ s) η =
    elim (dec_lt η x) [ yes h ↦ omega (arith, lead-yes x s η h, lead-le s η) | no h ↦ omega (arith, lead-no x s η (omega arith)) ]

pub level : (b : ℕ) (s : List ℕ) (f : ℕ → ℕ) → Falls b s → dot (weights b s) (tab (suc (length s)) f) ≡ sum b (λ η. f (lead s η))
level b [] f h = omega (arith, sum-const b (f 0))
level b (x ∷ s) f h =
    omega (
      arith,
      level x s (λ i. f (suc i)) h.1,
      sum-split x b (f 0) (λ η. f (lead (x ∷ s) η)) h.0 (λ i l m. ap f (lead-no x s i m)),
      sum-ext x (λ η. f (lead (x ∷ s) η)) (λ η. f (suc (lead s η))) (λ i l. ap f (lead-yes x s i l)),
    )

step-lead : (R : ℕ) (s : List ℕ) → Falls R s → (l η : ℕ) → l < length s → step l (lead s η) ≡ step η (get_or s l 0)
step-lead R [] f l η h = absurd (not-suc-le-zero h)
step-lead R (x ∷ s) f zero η h =
    elim (dec_lt η x) [
      | yes m ↦ ap (step 0) (lead-yes x s η m) ∙ sym (step-yes η x m)
      | no m ↦ ap (step 0) (lead-no x s η (omega arith)) ∙ sym (step-no η x (omega arith))
    ]
step-lead R (x ∷ s) f (suc l) η h =
    elim (dec_lt η x) [
      | yes m ↦ ap (step (suc l)) (lead-yes x s η m) ∙ step-lead x s f.1 l η (le_of_suc-le-suc h)
      | no m ↦ ap (step (suc l)) (lead-no x s η (omega arith)) ∙ sym (step-no η (get_or s l 0) (omega (arith, falls-top x s f.1 l)))
    ]

-- the share by b of a coordinate, at a level
abbrev pub shift : ℕ → ℕ → ℕ → ℕ
shift b η x = (x + (b - suc η)) / b

div-step : (b q y η : ℕ) → η < b → y ≤ b → shift b η (b * q + y) ≡ q + step η y
div-step b q y η h l =
    elim (dec_lt η y) [
      | yes m ↦
          div-eq_of_lt-le {k = q + 1} b {m = b * q + y + (b - suc η)} (omega arith) (omega arith)
          ∙ ap (λ (z : ℕ). q + z) (sym (step-yes η y m))
      | no m ↦
          div-eq_of_lt-le {k = q} b {m = b * q + y + (b - suc η)} (omega arith) (omega arith)
          ∙ omega (arith, step-no η y (omega arith))
    ]

pub shift_zero : (b η : ℕ) → η < b → shift b η 0 ≡ 0
shift_zero b η h = ap (shift b η) {x = 0} {y = b * 0 + 0} (omega arith) ∙ div-step b 0 0 η h (omega arith)

pub shift_top : (a b η : ℕ) → η < b → shift b η (a * b) ≡ a
shift_top a b η h = ap (shift b η) {x = a * b} {y = b * a + 0} (omega arith) ∙ div-step b a 0 η h (omega arith) ∙ omega arith

module _ (d a b : ℕ) (base t base' t' : ℕ → ℕ) (c : Code d a base t) (c' : Code d b base' t') (i η : ℕ) (h : η < b) where
  abbrev B : ℕ → ℕ
  B = Base d a b base t base' t' c c'

  abbrev T : ℕ → ℕ
  T = Time d a b base t base' t' c c'

  abbrev s : List ℕ
  s = corner d base' t' i

  place : (j : ℕ) → j < d → base j + step (t j) (lead s η) ≡ shift b η (B j + step (T j) i)
  place j l =
      let k : t j < d = c.perm.below j l in
      let e : get_or s (t j) 0 ≡ base' (t j) + step (T j) i = get_or-tab d (λ m. base' m + step (t' m) i) (t j) 0 k in
      ap (λ (y : ℕ). base j + y)
      (step-lead b s (falls-corner d b base' t' c' i) (t j) η (omega (arith, length-tab d (λ m. base' m + step (t' m) i)))
      ∙ ap (step η) e)
      ∙ sym (div-step b (base j) (base' (t j) + step (T j) i) η h (omega (arith, c'.top (t j) k, step-le (T j) i)))
      ∙ ap (shift b η) (omega arith)

  -- the corner of a level
  pub level-corner : corner d base t (lead s η) ≡ map (shift b η) (corner d B T i)
  level-corner =
      tab-ext d (λ j. base j + step (t j) (lead s η)) (λ j. shift b η (B j + step (T j) i)) place
      ∙ sym (map-tab (shift b η) d (λ j. B j + step (T j) i))

  pub level-weights : weights a (corner d base t (lead s η)) ≡ weights (shift b η (a * b)) (map (shift b η) (corner d B T i))
  level-weights = cc (level-corner, shift_top a b η h)
