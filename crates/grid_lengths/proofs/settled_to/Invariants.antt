-- `grid_lengths::settled_to` meets its contract. The invariant: now is what the first r visits come to. Assumes nothing.
use mathlib.Core.Path.{◌≡◌}
use Rattle.grid_lengths.specs.Settled.{settle, values_to}
use Rattle.grid_lengths.proofs.settled_to.Given as goal

abbrev pub invariant-loop-r : goal.invariant-loop-r
invariant-loop-r l = l.now ≡ settle (values_to l.grid l.a l.b l.r)
