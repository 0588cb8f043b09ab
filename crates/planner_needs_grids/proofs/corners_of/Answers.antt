-- `planner_needs_grids::corners_of` meets its contract: refused by the check, or d + 1 for each cell. Assumes nothing.
use Rattle.refusal.proofs.Chain.{passed_on}
use mathlib.Core.Path.{sym, ◌∙◌}
use native.Mathlib.Omega.{arith}
use Rattle.planner_needs_grids.proofs.Laws.{corners-refused, corners-counted, corners-low}
use Rattle.planner_needs_grids.proofs.corners_of.Goals as goal

pub returns-in_err-check : goal.returns-in_err-check
returns-in_err-check c = rw (passed_on c.from_residual.ensures.1) (corners-refused _ _ _ c.check.ensures c.in_err-check.was)

pub cells-requires : goal.cells-requires
cells-requires c = sym c.check.ensures ∙ c.in_ok-check.was

pub overflow_mul-n : goal.overflow_mul-n
overflow_mul-n c = omega (arith, (corners-low _ (sym c.check.ensures ∙ c.in_ok-check.was) _ c.cells.ensures).2)

pub overflow_cast-result : goal.overflow_cast-result
overflow_cast-result c = omega (arith, (corners-low _ (sym c.check.ensures ∙ c.in_ok-check.was) _ c.cells.ensures).2)

pub returns : goal.returns
returns c = corners-counted _ _ _ c.check.ensures c.in_ok-check.was c.cells.ensures
