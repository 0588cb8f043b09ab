-- `complex_boundary::write_cofaces` meets its contract. The invariant: the first x cofaces are written. Assumes nothing.
use mathlib.Core.Path.{◌≡◌}
use mathlib.Core.List.{◌++◌}
use Prim.Native.Nat.{◌/◌}
use lib.ListN.{drop}
use Rattle.lists.specs.Tables.{tab}
use Rattle.complex_boundary.proofs.write_cofaces.Given as goal

abbrev pub invariant-loop-x : goal.invariant-loop-x
invariant-loop-x l = l.cofaces ≡ tab l.x (λ y. y / l.n) ++ drop l.x l.initial.cofaces
