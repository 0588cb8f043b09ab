-- `refine_births::visits::write` meets its contract. The loop's invariant: the rows of the first x visits are written. Assumes nothing.
use mathlib.Core.Path.{◌≡◌}
use lib.ListN.{length}
use Rattle.refine_births.specs.WorkVisits.{Visited}
use Rattle.refine_births.proofs.visits.write.Given as goal

abbrev pub invariant-loop-x : goal.invariant-loop-x
invariant-loop-x l = (length l.keys ≡ length l.initial.keys) × Visited l.size l.n l.p l.words l.pattern l.keys l.x
