-- `planner_needs_faces::planner_need_faces` meets its contract: the lengths are written down one by one. Assumes nothing.
use Rattle.planner_needs_faces.proofs.Laws.{faces-made}
use Rattle.planner_needs_faces.proofs.planner_need_faces.Goals as goal

pub returns : goal.returns
returns c = faces-made _ _ _ c.face_room-r.ensures
