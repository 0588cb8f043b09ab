-- `planner_needs::planner_need_ordering` meets its contract: the lengths are written down one by one. Assumes nothing.
use native.Mathlib.Omega.{arith}
use Rattle.planner_needs.proofs.Laws.{ordering-made}
use Rattle.planner_needs.proofs.planner_need_ordering.Goals as goal

pub overflow_mul-k : goal.overflow_mul-k
overflow_mul-k c = omega (arith, c.corners-m.ensures.most)

pub overflow_add-need : goal.overflow_add-need
overflow_add-need c = omega (arith, c.corners-m.ensures.most)

pub overflow_add-need-2 : goal.overflow_add-need-2
overflow_add-need-2 c = omega (arith, c.corners-m.ensures.most)

pub returns : goal.returns
returns c = ordering-made _ _ _ c.corners-m.ensures
