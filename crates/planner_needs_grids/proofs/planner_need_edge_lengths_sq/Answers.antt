-- `planner_needs_grids::planner_need_edge_lengths_sq` meets its contract: the lengths are written down one by one. Assumes nothing.
use Rattle.planner_needs_grids.proofs.Laws.{lengths-made}
use Rattle.planner_needs_grids.proofs.planner_need_edge_lengths_sq.Goals as goal

pub returns : goal.returns
returns c = lengths-made _ _ _ c.corners-m.ensures
