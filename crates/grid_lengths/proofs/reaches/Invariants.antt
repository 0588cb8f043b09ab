-- `grid_lengths::reaches` meets its contract. The invariant: the first i ends are written. Assumes nothing.
use mathlib.Core.Path.{◌≡◌}
use mathlib.Core.List.{◌++◌}
use lib.ListN.{take, drop}
use Rattle.grid_lengths.specs.Work.{end_reach}
use Rattle.grid_lengths.proofs.reaches.Given as goal

abbrev pub invariant-loop-i : goal.invariant-loop-i
invariant-loop-i l = l.reach ≡ take l.i (end_reach l.grid) ++ drop l.i l.initial.reach
