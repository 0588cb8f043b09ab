-- The weights before place j are written, and the coordinates from there on fall from the last one passed. Assumes nothing.
use mathlib.Core.Path.{◌≡◌}
use mathlib.Core.Bool.{true}
use lib.ListN.{drop}
use Rattle.refine_lattice.specs.Lattice.{weights}
use Rattle.refine_lattice.specs.Children.{qualifies}
use Rattle.refine_pattern.proofs.Written.{Written}
use Rattle.refine_pattern.proofs.weigh.Given as goal

abbrev pub invariant-loop-j : goal.invariant-loop-j
invariant-loop-j l = record {
  falls : qualifies l.top (drop l.j l.s) ≡ true;
  written : Written (weights l.r l.s) l.initial.to (weights l.top (drop l.j l.s)) l.j l.to;
}
