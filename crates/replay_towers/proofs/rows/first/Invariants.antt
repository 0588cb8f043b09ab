-- `replay_towers::rows::first` meets its contract: row i begins at `at`, and no row passed is equal. Assumes nothing.
use mathlib.Core.Path.{◌≡◌}
use Prim.Native.Nat.{ℕ, ◌*◌, ◌≤◌, ◌<◌}
use lib.ListN.{take, drop}
use Rattle.replay_towers.proofs.rows.first.Given as goal

abbrev pub invariant-loop-i : goal.invariant-loop-i
invariant-loop-i l = (l.at ≡ l.i * l.width) × ((k : ℕ) → l.from ≤ k → k < l.i → take l.width (drop (k * l.width) l.among) ≡ l.row → ⊥)
