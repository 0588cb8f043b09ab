-- `complex_dropped::rename` meets its contract. The loop's invariant: the first i corners are renamed. Assumes nothing.
use mathlib.Core.Path.{◌≡◌}
use mathlib.Core.List.{◌++◌, map}
use lib.ListN.{get_or, take, drop}
use Rattle.complex_dropped.proofs.rename.Given as goal

abbrev pub invariant-loop-i : goal.invariant-loop-i
invariant-loop-i l = l.to ≡ map (λ v. get_or l.numbers v 0) (take l.i l.corners) ++ drop l.i l.initial.to
