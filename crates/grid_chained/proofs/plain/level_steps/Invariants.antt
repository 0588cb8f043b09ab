-- `grid_chained::plain::level_steps` meets its contract. The invariant: the steps along the axes below a are levelled. Assumes nothing.
use mathlib.Core.Path.{◌≡◌}
use Prim.Native.Nat.{ℕ, ◌<◌}
use Rattle.grid_chained.specs.WorkLevel.{Pass}
use Rattle.grid_chained.proofs.plain.level_steps.Given as goal

abbrev pub invariant-loop-a : goal.invariant-loop-a
invariant-loop-a l = Pass l.grid (λ (x b : ℕ). (x ≡ l.v) × (b < l.a)) l.initial.labels l.labels l.changed
