-- `complex_facets::write_records` meets its contract. The loop's invariant: the records of the first i facets are written. Assumes nothing.
use mathlib.Core.Path.{◌≡◌}
use mathlib.Core.List.{◌++◌}
use Prim.Native.Nat.{◌*◌}
use lib.ListN.{drop}
use Rattle.complex_facets.specs.WorkRecords.{fives}
use Rattle.complex_facets.proofs.write_records.Given as goal

abbrev pub invariant-loop-i : goal.invariant-loop-i
invariant-loop-i l = l.records ≡ fives l.d l.k l.i l.reps l.others ++ drop (l.i * 5) l.initial.records
