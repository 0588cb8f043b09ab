-- `complex_boundary::write_faces` meets its contract. The invariant: the first x faces are written. Assumes nothing.
use mathlib.Core.Path.{◌≡◌}
use mathlib.Core.List.{◌++◌}
use Prim.Native.Nat.{◌+◌, ◌-◌, ◌*◌, ◌/◌, ◌%◌}
use lib.ListN.{get_or, drop}
use Rattle.lists.specs.Tables.{tab}
use Rattle.complex_boundary.proofs.write_faces.Given as goal

abbrev pub invariant-loop-x : goal.invariant-loop-x
invariant-loop-x l = l.faces ≡ tab l.x (λ y. get_or l.ids (y / (l.k + 1) * (l.k + 1) + (l.k - y % (l.k + 1))) 0) ++ drop l.x l.initial.faces
