-- `planner_needs_grids::chained_corners_of` meets its contract: refused by the check, or the room that the classes need, which is d + 1 for each cell. Assumes nothing.
use Rattle.refusal.proofs.Chain.{passed_on}
use mathlib.Core.Path.{sym, ◌∙◌}
use native.Mathlib.Omega.{arith}
use Rattle.grid_chained.proofs.Taken.{few-corners}
use Rattle.planner_needs_grids.proofs.Laws.{chained_refused, chained-counted}
use Rattle.planner_needs_grids.proofs.chained_corners_of.Goals as goal

pub returns-in_err-check : goal.returns-in_err-check
returns-in_err-check c = rw (passed_on c.from_residual.ensures.1) (chained_refused _ _ _ c.check.ensures c.in_err-check.was)

pub need-n-requires : goal.need-n-requires
need-n-requires c = sym c.check.ensures ∙ c.in_ok-check.was

pub overflow_cast-result : goal.overflow_cast-result
overflow_cast-result c = omega (arith, few-corners _ (sym c.check.ensures ∙ c.in_ok-check.was), c.need-n.ensures)

pub returns : goal.returns
returns c = chained-counted _ _ _ c.check.ensures c.in_ok-check.was c.need-n.ensures
