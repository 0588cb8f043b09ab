-- Degrees below 1000 as signed numbers of 32 bits. Assumes nothing.
use mathlib.Core.Path.{◌≡◌, refl, sym, ap, subst, ◌∙◌}
use Prim.Native.Nat.{ℕ, zero, suc, ◌-◌, ◌<◌}
use native.Mathlib.Omega.{arith}
use borrow.Author.Tests.{lt-ltb}
use lib.IntN.{ℤ, pos, negsuc, ◌-ℤ◌}
use mir.Val.{SFits, to_z, of_z}
use mir.Facts.{to_z-of_z, to_z_pos}
use mir.Syntax.{w32}

module _ (n : ℕ) (h : n < 1000) where
  pub whole-cast : SFits w32 (pos n)
  whole-cast = record { sfits = omega arith }

  pub whole_is : to_z w32 n ≡ pos n
  whole_is = to_z_pos w32 (omega arith)

-- 0 - n, where n is not 0
minus_is : (m : ℕ) → pos 0 -ℤ pos (suc m) ≡ negsuc m
minus_is m = rw (lt-ltb 0 (suc m) (omega arith)) (ap negsuc (let e : suc m - 1 ≡ m = omega arith in e))

minus-fits : (n : ℕ) → n < 1000 → SFits w32 (pos 0 -ℤ pos n)
minus-fits zero h = record { sfits = omega arith }
minus-fits (suc m) h = subst (λ (z : ℤ). SFits w32 z) (sym (minus_is m)) (record { sfits = omega arith })

pub below-fits : (n : ℕ) → n < 1000 → SFits w32 (pos 0 -ℤ to_z w32 n)
below-fits n h = subst (λ (z : ℤ). SFits w32 (pos 0 -ℤ z)) (sym (whole_is n h)) (minus-fits n h)

pub below-is : (n : ℕ) → n < 1000 → (n ≡ 0 → ⊥) → (m : ℕ) × (n ≡ suc m) × (to_z w32 (of_z w32 (pos 0 -ℤ to_z w32 n)) ≡ negsuc m)
below-is zero h q = absurd (q refl)
below-is (suc m) h q = (m, refl, to_z-of_z (below-fits (suc m) h) ∙ ap (λ (z : ℤ). pos 0 -ℤ z) (whole_is (suc m) h) ∙ minus_is m)
