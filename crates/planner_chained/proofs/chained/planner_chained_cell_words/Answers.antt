-- `planner_chained::chained::planner_chained_cell_words` meets its contract: the grid is the one given, and the answer is the call's. Assumes nothing.
use Rattle.planner_chained.proofs.Laws.{words-said}
use Rattle.planner_chained.proofs.chained.planner_chained_cell_words.Goals as goal

pub returns : goal.returns
returns c = words-said c.counted.ensures c.cell_words.ensures c.plain-g.ensures
