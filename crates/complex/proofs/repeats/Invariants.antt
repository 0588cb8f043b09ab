-- No number before i stands again: the rest decides. Assumes nothing.
use Rattle.lists.specs.Words.{has_repeat}
use mathlib.Core.Path.{◌≡◌}
use lib.ListN.{drop}
use Rattle.complex.proofs.repeats.Given as goal

abbrev pub invariant-loop-i : goal.invariant-loop-i
invariant-loop-i l = has_repeat l.w ≡ has_repeat (drop l.i l.w)
