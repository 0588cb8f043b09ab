-- `quotient::Grid::spread` meets its contract. The invariant, `Spreading`: what is left of the number, the coordinates and both sets are those of the axes below k. Assumes nothing.
use Rattle.quotient.proofs.Seam.{Spreading}
use Rattle.quotient.proofs.Grid.spread.Given as goal

abbrev pub invariant-loop-k : goal.invariant-loop-k
invariant-loop-k l = Spreading l.self l.v l.coordinates l.rest l.wrapped l.reversed l.k
