-- `replay_towers::rows::rename` meets its contract: the first i numbers are renamed. Assumes nothing.
use Prim.Native.Nat.{ℕ, ◌<◌}
use Rattle.replay_towers.proofs.Naming.{NamedAt}
use Rattle.replay_towers.proofs.rows.rename.Given as goal

abbrev pub invariant-loop-i : goal.invariant-loop-i
invariant-loop-i l = (k : ℕ) → k < l.i → NamedAt l.names l.words l.renamed k
