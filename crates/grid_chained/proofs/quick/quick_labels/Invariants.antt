-- `grid_chained::quick::quick_labels` meets its contract. The invariant: the points passed have the least points of their classes. Assumes nothing.
use mathlib.Core.Path.{◌≡◌}
use Prim.Native.Nat.{ℕ, ◌<◌}
use Rattle.grid_chained.specs.Classing.{at}
use Rattle.grid_chained.proofs.Turns.{least_of}
use Rattle.grid_chained.proofs.quick.quick_labels.Given as goal

abbrev pub invariant-loop-v : goal.invariant-loop-v
invariant-loop-v l = (p : ℕ) → p < l.v → at l.labels p ≡ least_of l.grid p
