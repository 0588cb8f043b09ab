-- What is left to test is the coordinates from j on, below the last one passed. Assumes nothing.
use mathlib.Core.Path.{◌≡◌}
use lib.ListN.{drop}
use Rattle.refine_lattice.specs.Children.{qualifies}
use Rattle.refine_pattern.proofs.falls.Given as goal

abbrev pub invariant-loop-x : goal.invariant-loop-x
invariant-loop-x l = qualifies l.r l.s ≡ qualifies l.top (drop l.x-index l.s)
