-- `grid_words::origin` meets its contract. The invariant: s is the product of the points below k, x the number that the coordinates below k make, and rest what is
-- left of b. Assumes nothing.
use mathlib.Core.Path.{◌≡◌}
use Prim.Native.Nat.{◌/◌, ◌<◌}
use Rattle.quotient.specs.Fold.{product}
use Rattle.quotient.specs.Shape.{cells_on, points_on}
use Rattle.quotient.specs.Points.{from_digits}
use Rattle.grid_words.specs.Cells.{box_at}
use Rattle.grid_words.proofs.origin.Given as goal

abbrev pub invariant-loop-k : goal.invariant-loop-k
invariant-loop-k l = (l.s ≡ product (points_on l.grid) l.k) × (l.x ≡ from_digits (points_on l.grid) (box_at l.grid l.b) l.k) × (l.rest ≡ l.b / product (cells_on l.grid) l.k) × (l.x < l.s)
