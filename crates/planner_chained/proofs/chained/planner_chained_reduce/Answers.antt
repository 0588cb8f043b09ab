-- `planner_chained::chained::planner_chained_reduce` meets its contract: the grid is the one given, and the answer is the call's. Assumes nothing.
use Rattle.planner_chained.proofs.Laws.{class-said}
use Rattle.planner_chained.proofs.chained.planner_chained_reduce.Goals as goal

pub returns : goal.returns
returns c = class-said c.classed.ensures c.reduce.ensures c.plain-g.ensures
