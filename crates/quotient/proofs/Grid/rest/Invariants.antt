-- `quotient::Grid::rest` meets its contract. The invariant: x is what is left after the coordinates below j. Assumes nothing.
use mathlib.Core.Path.{◌≡◌}
use Rattle.quotient.specs.Reduce.{rest_at}
use Rattle.quotient.proofs.Grid.rest.Given as goal

abbrev pub invariant-loop-j : goal.invariant-loop-j
invariant-loop-j l = l.x ≡ rest_at l.self l.v l.j
