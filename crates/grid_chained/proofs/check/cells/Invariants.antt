-- `grid_chained::check::cells` meets its contract. The invariant: p is the number of cells that the axes below k make. Assumes nothing.
use mathlib.Core.Path.{◌≡◌}
use Prim.Native.Nat.{suc, ◌*◌}
use Rattle.quotient.specs.Fold.{product}
use Rattle.quotient.specs.Shape.{cells_on}
use Rattle.grid_chained.proofs.check.cells.Given as goal

abbrev pub invariant-loop-k : goal.invariant-loop-k
invariant-loop-k l = l.p ≡ product suc l.k * product (cells_on l.grid) l.k
