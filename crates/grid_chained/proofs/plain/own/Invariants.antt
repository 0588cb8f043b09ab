-- `grid_chained::plain::own` meets its contract. The invariant: the points passed have their own numbers. Assumes nothing.
use mathlib.Core.Path.{◌≡◌}
use Prim.Native.Nat.{ℕ, ◌<◌}
use Rattle.grid_chained.specs.Classing.{at}
use Rattle.grid_chained.proofs.plain.own.Given as goal

abbrev pub invariant-loop-v : goal.invariant-loop-v
invariant-loop-v l = (p : ℕ) → p < l.v → at l.labels p ≡ p
