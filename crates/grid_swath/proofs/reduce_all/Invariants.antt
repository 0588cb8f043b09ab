-- `grid_swath::reduce_all` meets its contract. The loop's invariant: the first i points are reduced. Assumes nothing.
use mathlib.Core.Path.{◌≡◌}
use mathlib.Core.List.{◌++◌, map}
use lib.ListN.{take, drop}
use Rattle.quotient.specs.Reduce.{vertex_of}
use Rattle.grid_swath.proofs.reduce_all.Given as goal

abbrev pub invariant-loop-i : goal.invariant-loop-i
invariant-loop-i l = l.glued ≡ map (vertex_of l.grid) (take l.i l.points) ++ drop l.i l.initial.glued
