-- `grid_words::offset` meets its contract. The invariant: s is the product of the points below k, x the number that the steps below k make, and rest what is left of m. Assumes nothing.
use mathlib.Core.Path.{◌≡◌}
use Prim.Native.Nat.{◌/◌, ◌<◌}
use Rattle.quotient.specs.Fold.{product}
use Rattle.quotient.specs.Shape.{points_on}
use Rattle.quotient.specs.Points.{from_digits}
use Rattle.grid_words.specs.Work.{two, step_to}
use Rattle.grid_words.proofs.offset.Given as goal

abbrev pub invariant-loop-k : goal.invariant-loop-k
invariant-loop-k l = (l.s ≡ product (points_on l.grid) l.k) × (l.x ≡ from_digits (points_on l.grid) (step_to l.m) l.k) × (l.rest ≡ l.m / product two l.k) × (l.x < l.s)
