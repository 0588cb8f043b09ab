-- `complex_mates::slots` meets its contract. Assumes nothing.
use native.Mathlib.Numerals.{add-one}
use Rattle.complex.specs.Facets.{slots}
use mathlib.Core.Path.{◌≡◌, refl}
use Prim.Native.Nat.{ℕ, zero, suc, ◌+◌}
use Rattle.complex_mates.proofs.slots.Goals as goal

pub returns : goal.returns
returns c = some-slots _ c.if-d-eq0.false
  where
    some-slots : (d : ℕ) → (d ≡ 0 → ⊥) → d + 1 ≡ slots d
    some-slots zero h = absurd (h refl)
    some-slots (suc d) h = add-one (suc d)
