-- `planner_needs_refinement::planner_need_refine` meets its contract: the lengths are written down one by one. Assumes nothing.
use mathlib.Core.Path.{refl}
use native.Mathlib.Omega.{arith}
use Rattle.planner_needs_refinement.proofs.Laws.{births-small, refine-made}
use Rattle.planner_needs_refinement.proofs.planner_need_refine.Goals as goal

pub overflow_mul-b : goal.overflow_mul-b
overflow_mul-b c =
    omega (arith, births-small c.args.d _ _ c.births.ensures)

pub returns : goal.returns
returns c = refine-made _ _ _ _ _ _ _ c.corners-m.ensures c.children_of-c.ensures c.births.ensures refl
