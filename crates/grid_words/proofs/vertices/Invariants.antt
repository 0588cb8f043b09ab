-- `grid_words::vertices` meets its contract. The invariant: the vertices of the first v points are written. Assumes nothing.
use mathlib.Core.Path.{◌≡◌}
use mathlib.Core.List.{◌++◌}
use lib.ListN.{take, drop}
use Rattle.grid_words.specs.Work.{vertex_table}
use Rattle.grid_words.proofs.vertices.Given as goal

abbrev pub invariant-loop-v : goal.invariant-loop-v
invariant-loop-v l = l.table ≡ take l.v (vertex_table l.grid) ++ drop l.v l.initial.table
