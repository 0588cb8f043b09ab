-- `complex_incidence::write_cells` meets its contract. The invariant: the first i cells are written. Assumes nothing.
use mathlib.Core.Path.{◌≡◌}
use mathlib.Core.List.{◌++◌}
use Prim.Native.Nat.{◌/◌}
use lib.ListN.{get_or, drop}
use Rattle.lists.specs.Tables.{tab}
use Rattle.complex_incidence.proofs.write_cells.Given as goal

abbrev pub invariant-loop-i : goal.invariant-loop-i
invariant-loop-i l = l.to ≡ tab l.i (λ j. get_or l.order j 0 / l.n) ++ drop l.i l.initial.to
