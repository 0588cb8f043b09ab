-- `planner_chained::chained::planner_chained_nvertices` meets its contract: the grid is the one given, and the answer is the call's. Assumes nothing.
use Rattle.planner_chained.proofs.Laws.{count-said}
use Rattle.planner_chained.proofs.chained.planner_chained_nvertices.Goals as goal

pub returns : goal.returns
returns c = count-said c.counted.ensures c.nvertices.ensures c.plain-g.ensures
