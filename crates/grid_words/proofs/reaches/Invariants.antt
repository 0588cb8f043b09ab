-- `grid_words::reaches` meets its contract. The invariant: the first i corners are written. Assumes nothing.
use mathlib.Core.Path.{◌≡◌}
use mathlib.Core.List.{◌++◌}
use lib.ListN.{take, drop}
use Rattle.grid_words.specs.Work.{reach_of}
use Rattle.grid_words.proofs.reaches.Given as goal

abbrev pub invariant-loop-i : goal.invariant-loop-i
invariant-loop-i l = l.reach ≡ take l.i (reach_of l.grid) ++ drop l.i l.initial.reach
