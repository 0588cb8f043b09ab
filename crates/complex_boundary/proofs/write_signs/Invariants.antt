-- `complex_boundary::write_signs` meets its contract. The invariant: the first x signs are written. Assumes nothing.
use mathlib.Core.Path.{◌≡◌}
use mathlib.Core.List.{◌++◌}
use Prim.Native.Nat.{◌%◌}
use lib.ListN.{drop}
use Rattle.multiindex.specs.Sign.{induced, sign_number}
use Rattle.lists.specs.Tables.{tab}
use Rattle.complex_boundary.proofs.write_signs.Given as goal

abbrev pub invariant-loop-x : goal.invariant-loop-x
invariant-loop-x l = l.signs ≡ tab l.x (λ y. sign_number (induced (y % l.n))) ++ drop l.x l.initial.signs
