-- `quotient::Grid::reduce` meets its contract. Assumes nothing.
use Rattle.refusal.proofs.Chain.{passed_on}
use mathlib.Core.Path.{sym, ◌∙◌}
use Rattle.quotient.proofs.Taken.{reduced-refused, reduced-at}
use Rattle.quotient.proofs.Grid.reduce.Goals as goal

pub crossed-requires : goal.crossed-requires
crossed-requires c = sym c.check.ensures ∙ c.in_ok-check.was

pub returns-in_err-check : goal.returns-in_err-check
returns-in_err-check c = rw (passed_on c.from_residual.ensures.1) (reduced-refused _ _ _ (sym c.in_err-check.was ∙ c.check.ensures))

pub returns : goal.returns
returns c = reduced-at _ _ _ (sym c.in_ok-check.was ∙ c.check.ensures) c.crossed.ensures
