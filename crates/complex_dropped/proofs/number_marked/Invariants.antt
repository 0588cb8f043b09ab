-- `complex_dropped::number_marked` meets its contract. The loop's invariant: the marked places below v are listed, and their marks replaced. Assumes nothing.
use Rattle.complex_dropped.proofs.Loops.{Numbers}
use Rattle.complex_dropped.proofs.number_marked.Given as goal

abbrev pub invariant-loop-v : goal.invariant-loop-v
invariant-loop-v l = Numbers l.initial.marks l.initial.places l.marks l.places l.next l.v
