-- After j turns the first j weights are written, and `rest` holds the others. Assumes nothing.
use Rattle.refine_pattern.proofs.Unpacked.{Unpacked}
use Rattle.refine_pattern.proofs.table.unpack.Given as goal

abbrev pub invariant-loop-weight : goal.invariant-loop-weight
invariant-loop-weight l = Unpacked l.corner l.initial.to l.weight-index l.rest l.to
