-- `quotient::Grid::some_odd` meets its contract. The invariant: no axis passed reflects an odd number. Assumes nothing.
use mathlib.Core.Path.{◌≡◌}
use mathlib.Core.Bool.{false}
use Rattle.quotient.specs.Fold.{some}
use Rattle.quotient.specs.Shape.{reflects_odd}
use Rattle.quotient.proofs.Grid.some_odd.Given as goal

abbrev pub invariant-loop-i : goal.invariant-loop-i
invariant-loop-i l = some (reflects_odd l.self) l.i ≡ false
