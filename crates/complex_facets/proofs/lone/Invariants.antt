-- `complex_facets::lone` meets its contract. The loop's invariant: the lone rows of the first i classes are stored. Assumes nothing.
use Rattle.complex_facets.specs.WorkClasses.{lone_rows}
use mathlib.Core.Path.{◌≡◌}
use mathlib.Core.List.{◌++◌}
use lib.ListN.{length, drop}
use Rattle.complex_facets.proofs.lone.Given as goal

abbrev pub invariant-loop-i : goal.invariant-loop-i
invariant-loop-i l =
    (l.j ≡ length (lone_rows l.i l.reps l.others)) × (l.to ≡ lone_rows l.i l.reps l.others ++ drop l.j l.initial.to)
