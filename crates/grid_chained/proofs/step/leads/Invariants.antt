-- `grid_chained::step::leads` meets its contract. The invariant: s is the product of the points on the axes below k, and x the number that the stepped coordinates
-- below k make, which is below s. Assumes nothing.
use mathlib.Core.Path.{◌≡◌}
use Prim.Native.Nat.{◌<◌}
use Rattle.quotient.specs.Fold.{product}
use Rattle.quotient.specs.Shape.{points_on}
use Rattle.quotient.specs.Points.{from_digits}
use Rattle.quotient.specs.Chain.{stepped_to}
use Rattle.grid_chained.proofs.step.leads.Given as goal

abbrev pub invariant-loop-k : goal.invariant-loop-k
invariant-loop-k l = record {
  points : l.s ≡ product (points_on l.grid) l.k;
  number : l.x ≡ from_digits (points_on l.grid) (stepped_to l.grid l.v l.a) l.k;
  below : l.x < l.s;
}
