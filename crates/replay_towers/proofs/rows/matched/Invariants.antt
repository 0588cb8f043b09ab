-- `replay_towers::rows::matched` meets its contract: the first x rows are named. Assumes nothing.
use mathlib.Core.Path.{◌≡◌}
use Prim.Native.Nat.{◌*◌}
use Rattle.replay_towers.proofs.Naming.{Upto}
use Rattle.replay_towers.proofs.rows.matched.Given as goal

abbrev pub invariant-loop-x : goal.invariant-loop-x
invariant-loop-x l = (l.at ≡ l.x * l.width) × Upto l.width l.count l.rows l.among l.names l.taken l.x
