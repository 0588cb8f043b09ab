-- After i turns the first i corners are written. Assumes nothing.
use Rattle.refine_pattern.proofs.Rows.{Rowed}
use Rattle.refine_pattern.proofs.table.tabled.Given as goal

abbrev pub invariant-loop-i : goal.invariant-loop-i
invariant-loop-i l = Rowed l.d l.r l.initial.to l.i l.at l.to
