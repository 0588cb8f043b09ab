-- `planner_needs::planner_need_cells` meets its contract: the lengths are written down one by one. Assumes nothing.
use Rattle.planner_needs.proofs.Laws.{cells-made}
use Rattle.planner_needs.proofs.planner_need_cells.Goals as goal

pub returns : goal.returns
returns c = cells-made _ _ _ _ c.corners-m.ensures c.key_room-k.ensures
