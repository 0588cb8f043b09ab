-- The first m chains have given what they give, and the cursor stands at the next. Assumes nothing.
use Rattle.refine_pattern.proofs.Filled.{Filled}
use Rattle.refine_pattern.proofs.stepped.Given as goal

abbrev pub invariant-loop : goal.invariant-loop
invariant-loop l = Filled l.d l.r l.initial.to l.counter l.c l.at l.to
