-- The list is as it was, and the coordinates before j are all R. Assumes nothing.
use mathlib.Core.Path.{◌≡◌}
use Rattle.refine_pattern.proofs.Rising.{Over}
use Rattle.refine_pattern.proofs.rise.Given as goal

abbrev pub invariant-loop-j : goal.invariant-loop-j
invariant-loop-j l = Over l.r l.initial.s l.j × (l.s ≡ l.initial.s)
