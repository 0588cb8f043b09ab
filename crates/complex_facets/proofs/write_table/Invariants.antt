-- `complex_facets::write_table` meets its contract. The loop's invariant: the numbers of the first i facets are written. Assumes nothing.
use lib.ListN.{drop}
use mathlib.Core.Path.{◌≡◌}
use mathlib.Core.List.{◌++◌}
use Prim.Native.Nat.{◌*◌}
use Rattle.complex_facets.specs.WorkSides.{fours}
use Rattle.complex_facets.proofs.write_table.Given as goal

abbrev pub invariant-loop-i : goal.invariant-loop-i
invariant-loop-i l =
    l.table ≡ fours l.d l.k l.i l.reps l.others ++ drop (l.i * 4) l.initial.table
