-- `planner_needs_faces::planner_need_boundary` meets its contract: the lengths are written down one by one. Assumes nothing.
use Rattle.planner_needs_faces.proofs.Laws.{boundary-made}
use Rattle.planner_needs_faces.proofs.planner_need_boundary.Goals as goal

pub returns : goal.returns
returns c = boundary-made _ _ _ c.face_room-r.ensures
