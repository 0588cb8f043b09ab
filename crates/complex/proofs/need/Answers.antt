-- The keys are what `key_room` gives, the rest is the number of corners. Assumes nothing.
use mathlib.Core.Path.{◌≡◌}
use Prim.Native.Nat.{ℕ}
use Rattle.refusal.specs.declared.Room.{Room}
use Rattle.complex.proofs.need.Goals as goal

with_keys : (n k m : ℕ) → k ≡ m → ◌≡◌ {A = Room} (record { keys = k; rows = n; spare = n; counts = n }) (record { keys = m; rows = n; spare = n; counts = n })
with_keys n k m e = cc

pub returns : goal.returns
returns c = with_keys _ _ _ c.key_room.ensures
