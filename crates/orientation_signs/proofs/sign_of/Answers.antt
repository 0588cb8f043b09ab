-- `orientation_signs::sign_of` meets its contract. Assumes nothing.
use Rattle.orientation_signs.specs.WorkFound.{mark_number}
use lib.IntN.{negsuc}
use mathlib.Core.Path.{◌≡◌, refl}
use Prim.Native.Nat.{ℕ, zero, suc}
use Rattle.orientation_signs.proofs.sign_of.Goals as goal

pub returns-then-mark-eq1 : goal.returns-then-mark-eq1
returns-then-mark-eq1 c = rw c.if-mark-eq1.true

pub returns : goal.returns
returns c = other _ c.if-mark-eq1.false
  where
    other : (n : ℕ) → (n ≡ 1 → ⊥) → negsuc 0 ≡ mark_number n
    other zero h = refl
    other (suc zero) h = absurd (h refl)
    other (suc (suc n)) h = refl
