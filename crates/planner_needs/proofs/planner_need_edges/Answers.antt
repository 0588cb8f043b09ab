-- `planner_needs::planner_need_edges` meets its contract: the lengths are written down one by one. Assumes nothing.
use native.Mathlib.Omega.{arith}
use Rattle.needs.proofs.Laws.{key-most}
use Rattle.planner_needs.proofs.Laws.{edges-made}
use Rattle.planner_needs.proofs.planner_need_edges.Goals as goal

pub overflow_mul-need : goal.overflow_mul-need
overflow_mul-need c = omega (arith, key-most _ _ _ _ c.corners-m.ensures c.key_room-k.ensures)

pub returns : goal.returns
returns c = edges-made _ _ _ _ c.corners-m.ensures c.key_room-k.ensures
