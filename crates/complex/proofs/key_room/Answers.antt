-- `complex::key_room` meets its contract. Assumes nothing.
use Rattle.complex.specs.Room.{key_room}
use native.Mathlib.Nat.{mul-le-mul_right}
use mathlib.Core.Path.{◌≡◌, refl}
use Prim.Native.Nat.{ℕ, zero, suc, ◌*◌}
use native.Mathlib.Omega.{arith}
use Rattle.complex.proofs.key_room.Goals as goal

pub overflow_mul-result : goal.overflow_mul-result
overflow_mul-result c = omega (arith, mul-le-mul_right c.args.len c.requires.0)

pub returns : goal.returns
returns c = some-room _ _ c.if-d-eq0.false
  where
    some-room : (d n : ℕ) → (d ≡ 0 → ⊥) → d * n ≡ key_room d n
    some-room zero n h = absurd (h refl)
    some-room (suc d) n h = refl
