-- `quotient::Grid::number` meets its contract. The invariant: s is the product of the places below k, x the number so far, and x is below s. Assumes nothing.
use mathlib.Core.Path.{◌≡◌}
use Prim.Native.Nat.{◌<◌}
use lib.ListN.{get_or}
use Rattle.quotient.specs.Fold.{product}
use Rattle.quotient.specs.Shape.{glued_on}
use Rattle.quotient.specs.Points.{from_digits}
use Rattle.quotient.specs.Work.{folded_by}
use Rattle.quotient.proofs.Grid.number.Given as goal

abbrev pub invariant-loop-k : goal.invariant-loop-k
invariant-loop-k l =
    (l.s ≡ product (glued_on l.self) l.k) × (l.x ≡ from_digits (glued_on l.self) (λ j. folded_by l.self l.m j (get_or l.coordinates j 0)) l.k) × (l.x < l.s)
