-- `orientation_walk::drain` meets its contract. Assumes nothing.
use Prim.Native.Nat.{◌+◌}
use Rattle.orientation_walk.specs.WorkSteps.{Drain, zeros}
use Rattle.orientation_walk.proofs.drain.Given as goal

abbrev pub invariant-loop-top : goal.invariant-loop-top
invariant-loop-top l =
    Drain l.k l.other l.flip l.initial.signs l.initial.stack l.initial.top l.taken l.signs l.stack l.top

abbrev pub decreases-loop-top : goal.decreases-loop-top
decreases-loop-top l = l.top + zeros l.n l.signs
