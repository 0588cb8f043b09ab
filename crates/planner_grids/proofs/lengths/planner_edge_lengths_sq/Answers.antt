-- `planner_grids::lengths::planner_edge_lengths_sq` meets its contract: the grid is the one given, and the answer is the call's. Assumes nothing.
use Rattle.planner_grids.proofs.Laws.{lengths-said}
use Rattle.planner_grids.proofs.lengths.planner_edge_lengths_sq.Goals as goal

pub returns : goal.returns
returns c = lengths-said c.counted.ensures c.edge_lengths_sq.ensures c.grid-g.ensures
