-- `grid_chained::check::points` meets its contract. The invariant: p is the product of the points on the axes below k. Assumes nothing.
use mathlib.Core.Path.{◌≡◌}
use Rattle.quotient.specs.Fold.{product}
use Rattle.quotient.specs.Shape.{points_on}
use Rattle.grid_chained.proofs.check.points.Given as goal

abbrev pub invariant-loop-k : goal.invariant-loop-k
invariant-loop-k l = l.p ≡ product (points_on l.grid) l.k
