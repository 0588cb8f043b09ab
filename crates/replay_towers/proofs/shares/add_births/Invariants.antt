-- `replay_towers::shares::add_births` meets its contract: the birth x has the numbers from `at` on, and x is at most n and `at` together. Assumes nothing.
use Prim.Native.Nat.{◌+◌, ◌-◌, ◌≤◌}
use lib.ListN.{length}
use Rattle.replay_towers.proofs.shares.add_births.Given as goal

abbrev pub invariant-loop-at : goal.invariant-loop-at
invariant-loop-at l = (l.at ≤ length l.vertices) × (l.x ≤ l.n + l.at)

abbrev pub decreases-loop-at : goal.decreases-loop-at
decreases-loop-at l = length l.vertices - l.at
