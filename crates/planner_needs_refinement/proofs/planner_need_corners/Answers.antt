-- `planner_needs_refinement::planner_need_corners` meets its contract: nothing past the largest dimension, and else the corners of one cell's children. Assumes nothing.
use native.Mathlib.Omega.{arith}
use Rattle.planner_needs_refinement.proofs.Laws.{corners-none, corners-some, corners-small}
use Rattle.planner_needs_refinement.proofs.planner_need_corners.Goals as goal

pub returns-then-d-gt-MOST_DIMENSION : goal.returns-then-d-gt-MOST_DIMENSION
returns-then-d-gt-MOST_DIMENSION c = corners-none _ _ c.if-d-gt-MOST_DIMENSION.true

pub overflow_mul-need : goal.overflow_mul-need
overflow_mul-need c = omega (arith, (corners-small _ c.args.r _ c.if-d-gt-MOST_DIMENSION.false c.children-c.ensures).0)

pub overflow_mul-need-2 : goal.overflow_mul-need-2
overflow_mul-need-2 c = omega (arith, (corners-small _ c.args.r _ c.if-d-gt-MOST_DIMENSION.false c.children-c.ensures).1)

pub returns : goal.returns
returns c = corners-some _ _ _ c.if-d-gt-MOST_DIMENSION.false c.children-c.ensures
