-- `grid_words::cells` meets its contract: as many cells as orders of the axes, in each box. Assumes nothing.
use native.Mathlib.Omega.{arith}
use Rattle.quotient.proofs.Taken.{taken-cells}
use Rattle.grid_words.proofs.Corners.{dim, cells-product}
use Rattle.grid_words.proofs.cells.Goals as goal

pub count-requires : goal.count-requires
count-requires c = dim c.args.grid c.requires

pub overflow_mul-result : goal.overflow_mul-result
overflow_mul-result c =
    let e = cells-product c.args.grid c.requires _ _ c.count.ensures c.boxes.ensures in
    omega (arith, e, taken-cells c.args.grid c.requires)

pub returns : goal.returns
returns c = cells-product c.args.grid c.requires _ _ c.count.ensures c.boxes.ensures
