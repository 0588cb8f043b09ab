-- `planner_needs_grids::planner_need_triangulate_ordered` meets its contract: the lengths are written down one by one. Assumes nothing.
use native.Mathlib.Omega.{arith}
use Rattle.needs.proofs.Laws.{key-most}
use Rattle.planner_needs_grids.proofs.Laws.{triangulated-made}
use Rattle.planner_needs_grids.proofs.planner_need_triangulate_ordered.Goals as goal

pub overflow_add-need : goal.overflow_add-need
overflow_add-need c = omega (arith, key-most _ _ _ _ c.corners-m.ensures c.key_room-k.ensures, c.corners-m.ensures.most)

pub overflow_add-need-2 : goal.overflow_add-need-2
overflow_add-need-2 c = omega (arith, key-most _ _ _ _ c.corners-m.ensures c.key_room-k.ensures, c.corners-m.ensures.most)

pub returns : goal.returns
returns c = triangulated-made _ _ _ _ c.corners-m.ensures c.key_room-k.ensures
