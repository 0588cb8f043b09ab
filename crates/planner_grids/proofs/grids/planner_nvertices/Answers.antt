-- `planner_grids::grids::planner_nvertices` meets its contract: the grid is the one given, and the answer is the call's. Assumes nothing.
use Rattle.quotient.specs.Shape.{nvertices_of}
use Rattle.planner_passing.specs.Said.{counted_code}
use Rattle.planner_grids.proofs.Laws.{called}
use Rattle.planner_grids.proofs.grids.planner_nvertices.Goals as goal

pub returns : goal.returns
returns c = called counted_code nvertices_of c.counted.ensures c.nvertices.ensures c.plain-g.ensures
