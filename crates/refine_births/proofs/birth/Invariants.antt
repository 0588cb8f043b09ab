-- `refine_births::birth` meets its contract. The loop's invariant: the first j vertices and weights are written. Assumes nothing.
use lib.ListN.{length}
use Rattle.refine_births.proofs.Bear.{Bearing-row}
use Rattle.refine_births.proofs.birth.Given as goal

abbrev pub invariant-loop-j : goal.invariant-loop-j
invariant-loop-j l = Bearing-row l.n l.row (length l.initial.vertices) l.vertices l.weights l.j
