-- `grid_chained::plain::round` meets its contract. The invariant: the steps at the points below v are levelled. Assumes nothing.
use Prim.Native.Nat.{ℕ, ◌<◌}
use Rattle.grid_chained.specs.WorkLevel.{Pass}
use Rattle.grid_chained.proofs.plain.round.Given as goal

abbrev pub invariant-loop-v : goal.invariant-loop-v
invariant-loop-v l = Pass l.grid (λ (x b : ℕ). (x < l.v) × (b < l.grid.d)) l.initial.labels l.labels l.changed
