-- `quotient::Grid::is_orientation_preserving` meets its contract. Assumes nothing.
use Rattle.refusal.proofs.Chain.{passed_on}
use mathlib.Core.Path.{sym, ◌∙◌}
use Rattle.quotient.proofs.Checks.{parity-refused, parity-is}
use Rattle.quotient.proofs.Grid.is_orientation_preserving.Goals as goal

pub returns-in_err-check : goal.returns-in_err-check
returns-in_err-check c = rw (passed_on c.from_residual.ensures.1) (parity-refused _ _ (sym c.in_err-check.was ∙ c.check.ensures))

pub returns : goal.returns
returns c = parity-is _ (sym c.in_ok-check.was ∙ c.check.ensures) c.some_odd.ensures
