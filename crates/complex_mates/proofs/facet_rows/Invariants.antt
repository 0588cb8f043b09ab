-- `complex_mates::facet_rows` meets its contract. The loop's invariant: the first x facet rows are written. Assumes nothing.
use Rattle.complex_mates.specs.Table.{Written}
use Rattle.complex_mates.proofs.facet_rows.Given as goal

abbrev pub invariant-loop-x : goal.invariant-loop-x
invariant-loop-x l = Written l.d l.k l.cells l.keys l.x
