-- `planner_chained::chained::planner_chained_closed_classes` meets its contract: the grid is the one given, and the answer is the call's. Assumes nothing.
use Rattle.planner_chained.proofs.Laws.{classes-said}
use Rattle.planner_chained.proofs.chained.planner_chained_closed_classes.Goals as goal

pub returns : goal.returns
returns c = classes-said c.counted.ensures c.closed_classes.ensures c.plain-g.ensures
