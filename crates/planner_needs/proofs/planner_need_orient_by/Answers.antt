-- `planner_needs::planner_need_orient_by` meets its contract: the lengths are written down one by one. Assumes nothing.
use native.Mathlib.Omega.{arith}
use Rattle.planner_needs.proofs.Laws.{orient-by-made}
use Rattle.planner_needs.proofs.planner_need_orient_by.Goals as goal

pub overflow_mul-k : goal.overflow_mul-k
overflow_mul-k c = omega (arith, c.corners-m.ensures.most)

pub returns : goal.returns
returns c = orient-by-made _ _ _ c.corners-m.ensures
