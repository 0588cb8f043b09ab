-- `planner_grids::grids::planner_is_orientation_preserving` meets its contract: the grid is the one given, and the answer is the call's. Assumes nothing.
use Rattle.quotient.specs.Shape.{parity_of}
use Rattle.planner_passing.specs.Said.{parity_code}
use Rattle.planner_grids.proofs.Laws.{called}
use Rattle.planner_grids.proofs.grids.planner_is_orientation_preserving.Goals as goal

pub returns : goal.returns
returns c = called parity_code parity_of c.verdict.ensures c.is_orientation_preserving.ensures c.plain-g.ensures
