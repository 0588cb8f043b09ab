-- After i steps the points before the one reached are written. Assumes nothing.
use Rattle.refine_pattern.proofs.Walked.{Walked}
use Rattle.refine_pattern.proofs.write.Given as goal

abbrev pub invariant-loop-i : goal.invariant-loop-i
invariant-loop-i l = Walked l.d l.r l.k l.initial.s l.initial.to l.i l.s l.at l.to
