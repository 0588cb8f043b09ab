-- `planner_chained::chained::planner_chained_classes` meets its contract: the grid is the one given, and the answer is the call's. Assumes nothing.
use Rattle.planner_chained.proofs.Laws.{classes-said}
use Rattle.planner_chained.proofs.chained.planner_chained_classes.Goals as goal

pub returns : goal.returns
returns c = classes-said c.counted.ensures c.classes.ensures c.plain-g.ensures
