-- `orientation_walk::spread` meets its contract. Assumes nothing.
use Rattle.orientation_walk.specs.WorkSteps.{Pieces}
use Rattle.orientation_walk.proofs.spread.Given as goal

abbrev pub invariant-loop-i : goal.invariant-loop-i
invariant-loop-i l =
    Pieces l.k l.other l.flip l.initial.signs l.initial.stack l.i l.taken l.signs l.stack
