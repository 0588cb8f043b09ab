-- After j turns the product is (r + 1) .. (r + j). Assumes nothing.
use mathlib.Core.Path.{◌≡◌}
use Rattle.refine_pattern.proofs.Climb.{climb}
use Rattle.refine_pattern.proofs.chain_count.Given as goal

abbrev pub invariant-loop-j : goal.invariant-loop-j
invariant-loop-j l = l.total ≡ climb l.r l.j
