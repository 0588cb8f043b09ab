-- `grid_lengths::settled` meets its contract. The invariant: known is what the visits of the first x boxes come to (proofs/Skipped). Assumes nothing.
use mathlib.Core.Path.{◌≡◌}
use Prim.Native.Nat.{◌*◌}
use Rattle.grid_lengths.specs.Settled.{settle, values_to}
use Rattle.grid_lengths.specs.Work.{visits_each}
use Rattle.grid_lengths.proofs.settled.Given as goal

abbrev pub invariant-loop-x : goal.invariant-loop-x
invariant-loop-x l = l.known ≡ settle (values_to l.grid l.a l.b (l.x * visits_each l.grid))
