-- `planner_needs::planner_need_border` meets its contract: the lengths are written down one by one. Assumes nothing.
use native.Mathlib.Omega.{arith}
use Rattle.planner_needs.proofs.Laws.{border-made}
use Rattle.planner_needs.proofs.planner_need_border.Goals as goal

pub overflow_mul-need : goal.overflow_mul-need
overflow_mul-need c = omega (arith, c.corners-m.ensures.keys)

pub returns : goal.returns
returns c = border-made _ _ _ _ c.corners-m.ensures c.key_room-k.ensures
