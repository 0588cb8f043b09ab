-- `quotient::Grid::sizes` meets its contract. The invariant: cells and vertices are the capped products so far. Assumes nothing.
use mathlib.Core.Path.{◌≡◌}
use Prim.Native.Nat.{suc, ◌+◌, ◌*◌, min}
use Rattle.quotient.specs.Fold.{product}
use Rattle.quotient.specs.Shape.{cells_on, glued_on}
use Rattle.quotient.proofs.Grid.sizes.Given as goal

abbrev pub invariant-loop-i : goal.invariant-loop-i
invariant-loop-i l =
    (l.n ≡ min (product suc l.i * product (cells_on l.self) l.i) (l.cells + 1)) × (l.m ≡ min (product (glued_on l.self) l.i) (l.vertices + 1))
