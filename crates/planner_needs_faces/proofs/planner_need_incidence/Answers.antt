-- `planner_needs_faces::planner_need_incidence` meets its contract: the lengths are written down one by one. Assumes nothing.
use Rattle.planner_needs_faces.proofs.Laws.{index-made}
use Rattle.planner_needs_faces.proofs.planner_need_incidence.Goals as goal

pub returns : goal.returns
returns c = index-made _ _ _ _ c.corners-m.ensures c.key_room-k.ensures
