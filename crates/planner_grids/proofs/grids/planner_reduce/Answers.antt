-- `planner_grids::grids::planner_reduce` meets its contract: the grid is the one given, and the answer is the call's. Assumes nothing.
use Rattle.quotient.specs.declared.Grid.{Grid}
use Rattle.quotient.specs.Reduce.{reduce_of}
use Rattle.planner_passing.specs.Given.{vertex_given}
use Rattle.planner_grids.proofs.Laws.{called}
use Rattle.planner_passing.specs.Said.{reduced_code}
use Rattle.planner_grids.proofs.grids.planner_reduce.Goals as goal

pub returns : goal.returns
returns c = called reduced_code (λ (g : Grid). reduce_of g (vertex_given c.args.v)) c.reduced.ensures c.reduce.ensures c.plain-g.ensures
