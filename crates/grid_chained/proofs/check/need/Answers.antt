-- `grid_chained::check::need` meets its contract. Assumes nothing.
use mathlib.Core.Path.{◌≡◌}
use Prim.Native.Nat.{◌+◌, ◌*◌}
use native.Mathlib.Omega.{arith}
use native.Mathlib.Numerals.{add-one}
use Rattle.grid_chained.specs.Shape.{need_of}
use Rattle.grid_chained.proofs.Taken.{few-corners}
use Rattle.grid_chained.proofs.check.need.Goals as goal

pub overflow_mul-result : goal.overflow_mul-result
overflow_mul-result c =
    let is-need : c.cells.result * (c.args.grid.d + 1) ≡ need_of c.args.grid = rw (c.cells.ensures, add-one c.args.grid.d) in
    omega (arith, is-need, few-corners c.args.grid c.requires)
