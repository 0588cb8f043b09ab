-- `planner_needs::planner_need_facets` meets its contract: the lengths are written down one by one. Assumes nothing.
use native.Mathlib.Omega.{arith}
use Rattle.planner_needs.proofs.Laws.{facets-made}
use Rattle.planner_needs.proofs.planner_need_facets.Goals as goal

pub overflow_mul-need : goal.overflow_mul-need
overflow_mul-need c = omega (arith, c.corners-m.ensures.keys)

pub overflow_mul-need-2 : goal.overflow_mul-need-2
overflow_mul-need-2 c = omega (arith, c.corners-m.ensures.most)

pub returns : goal.returns
returns c = facets-made _ _ _ _ c.corners-m.ensures c.key_room-k.ensures
