use Rattle.orientation_walk.specs.WorkSteps.{Slots}
use Rattle.orientation_walk.proofs.cell.Given as goal

abbrev pub invariant-loop-s : goal.invariant-loop-s
invariant-loop-s l =
    Slots l.k l.other l.flip l.c l.initial.signs l.initial.stack l.initial.top l.s l.signs l.stack l.top
