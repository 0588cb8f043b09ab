-- `grid_words::touches` meets its contract. The invariant: none of the first m corners is the vertex. Assumes nothing.
use mathlib.Core.Path.{◌≡◌}
use Prim.Native.Nat.{◌+◌}
use mathlib.Core.Bool.{false}
use lib.Dec.{eqb}
use Rattle.quotient.specs.Fold.{some}
use Rattle.quotient.specs.Reduce.{vertex_of}
use Rattle.quotient.specs.Points.{point_of}
use Rattle.grid_words.specs.Cells.{box_at}
use Rattle.grid_words.specs.Work.{offset_of}
use Rattle.grid_words.proofs.touches.Given as goal

abbrev pub invariant-loop-m : goal.invariant-loop-m
invariant-loop-m l = some (λ y. eqb (vertex_of l.grid (point_of l.grid (box_at l.grid l.b) + offset_of l.grid y)) l.v.0) l.m ≡ false
