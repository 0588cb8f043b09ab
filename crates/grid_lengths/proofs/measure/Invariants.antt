-- `grid_lengths::measure` meets its contract. The invariant: the first r values are written. Assumes nothing.
use mathlib.Core.Path.{◌≡◌}
use mathlib.Core.List.{◌++◌}
use lib.ListN.{take, drop}
use Rattle.lists.specs.Tables.{tab}
use Rattle.grid_lengths.specs.Edges.{square_at}
use Rattle.grid_lengths.specs.Work.{visits_each}
use Rattle.grid_lengths.proofs.measure.Given as goal

abbrev pub invariant-loop-r : goal.invariant-loop-r
invariant-loop-r l = l.values ≡ take l.r (tab (visits_each l.grid) (square_at l.grid)) ++ drop l.r l.initial.values
