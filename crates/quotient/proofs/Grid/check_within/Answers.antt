-- `quotient::Grid::check_within` meets its contract: a grid is taken exactly if its vertices are counted. Assumes nothing.
use Rattle.refusal.proofs.Chain.{passed_on}
use mathlib.Core.Path.{sym, ◌∙◌}
use Rattle.quotient.proofs.Checks.{check-refused, check-fine}
use Rattle.quotient.proofs.Grid.check_within.Goals as goal

pub returns-in_err-count_within : goal.returns-in_err-count_within
returns-in_err-count_within c = rw (passed_on c.from_residual.ensures.1) (check-refused _ _ _ (sym c.in_err-count_within.was ∙ c.count_within.ensures))

pub returns : goal.returns
returns c = check-fine _ _ _ (sym c.in_ok-count_within.was ∙ c.count_within.ensures)
