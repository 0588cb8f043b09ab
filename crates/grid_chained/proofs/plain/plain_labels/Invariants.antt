-- `grid_chained::plain::plain_labels` meets its contract. The invariant: each label is a point no greater, joined to its own, and once a round changed nothing all steps
-- have even ends. The measure is the sum of the labels, and one more while rounds go on. Assumes nothing.
use mathlib.Core.Path.{◌≡◌}
use mathlib.Core.Bool.{false, cond}
use Prim.Native.Nat.{ℕ, ◌+◌, ◌<◌}
use Rattle.quotient.specs.Points.{points_of}
use Rattle.grid_chained.specs.WorkLevel.{total, Marked, Even}
use Rattle.grid_chained.proofs.plain.plain_labels.Given as goal

abbrev pub invariant-loop-again : goal.invariant-loop-again
invariant-loop-again l = Marked l.grid l.labels × (l.again ≡ false → (v a : ℕ) → (v < points_of l.grid) × (a < l.grid.d) → Even l.grid l.labels v a)

abbrev pub decreases-loop-again : goal.decreases-loop-again
decreases-loop-again l = total l.labels + cond l.again 1 0
