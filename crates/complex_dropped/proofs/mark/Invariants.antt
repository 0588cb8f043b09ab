-- `complex_dropped::mark` meets its contract. The loop's invariant: the places passed are marked, and the others are left to mark. Assumes nothing.
use mathlib.Core.Path.{◌≡◌}
use lib.ListN.{drop}
use Rattle.lists.specs.Words.{marked}
use Rattle.complex_dropped.proofs.mark.Given as goal

abbrev pub invariant-loop-place : goal.invariant-loop-place
invariant-loop-place l = marked l.initial.marks l.places ≡ marked l.marks (drop l.place-index l.places)
