-- `orientation_signs::hand_out` meets its contract. The loop's invariant: the first c signs are handed out. Assumes nothing.
use Rattle.orientation_signs.specs.WorkFound.{handed_out}
use mathlib.Core.Path.{◌≡◌}
use mathlib.Core.List.{◌++◌}
use lib.ListN.{take, drop}
use Rattle.orientation_signs.proofs.hand_out.Given as goal

abbrev pub invariant-loop-c : goal.invariant-loop-c
invariant-loop-c l = l.signs ≡ handed_out (take l.c l.marks) ++ drop l.c l.initial.signs
