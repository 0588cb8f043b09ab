-- `planner_grids::grids::planner_triangulate_ordered` meets its contract: the grid is the one given, and the answer is the call's. Assumes nothing.
use Rattle.planner_grids.proofs.Laws.{triangulated-said}
use Rattle.planner_grids.proofs.grids.planner_triangulate_ordered.Goals as goal

pub returns : goal.returns
returns c = triangulated-said c.triangulated.ensures c.triangulate_ordered.ensures c.plain-g.ensures
