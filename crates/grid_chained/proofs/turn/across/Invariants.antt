-- `grid_chained::turn::across` meets its contract. The invariant: s is the product of the points on the axes below k, and x the number that the turned coordinates
-- below k make, which is below s. Assumes nothing.
use mathlib.Core.Path.{◌≡◌}
use Prim.Native.Nat.{◌<◌}
use Rattle.quotient.specs.Fold.{product}
use Rattle.quotient.specs.Shape.{points_on, cells_on}
use Rattle.quotient.specs.Reduce.{coord_at}
use Rattle.quotient.specs.Points.{from_digits}
use Rattle.grid_chained.specs.WorkTurn.{turns_at, turn}
use Rattle.grid_chained.proofs.turn.across.Given as goal

abbrev pub invariant-loop-k : goal.invariant-loop-k
invariant-loop-k l = record {
  points : l.s ≡ product (points_on l.grid) l.k;
  number : l.x ≡ from_digits (points_on l.grid) (λ i. turn (turns_at l.grid l.a i) (cells_on l.grid i) (coord_at l.grid l.v i)) l.k;
  below : l.x < l.s;
}
