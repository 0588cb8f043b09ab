-- `planner_needs_faces::planner_need_matrix_market` meets its contract: the lengths are written down one by one. Assumes nothing.
use Rattle.planner_needs_faces.proofs.Laws.{market-made}
use Rattle.planner_needs_faces.proofs.planner_need_matrix_market.Goals as goal

pub returns : goal.returns
returns c = market-made _ _ _ c.face_room-r.ensures
