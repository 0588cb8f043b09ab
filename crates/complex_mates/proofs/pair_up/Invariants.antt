-- `complex_mates::pair_up` meets its contract. The loop's invariant: among the first x rows each has its mate, no class has three, and no later row has one yet. Assumes nothing.
use Rattle.lists.specs.Words.{none}
use Rattle.complex_mates.specs.Table.{Paired}
use mathlib.Core.Path.{◌≡◌}
use Prim.Native.Nat.{ℕ, ◌≤◌, ◌<◌}
use lib.ListN.{get_or}
use Rattle.complex_mates.proofs.pair_up.Given as goal

abbrev pub invariant-loop-x : goal.invariant-loop-x
invariant-loop-x l = ((y : ℕ) → l.x ≤ y → y < l.total → get_or l.mates y 0 ≡ none) × Paired l.x l.ids l.mates
