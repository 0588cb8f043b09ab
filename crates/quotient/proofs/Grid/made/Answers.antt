-- `quotient::Grid::made` meets its contract. Assumes nothing.
use Rattle.refusal.proofs.Chain.{passed_on}
use mathlib.Core.Path.{sym, ◌∙◌}
use Rattle.quotient.proofs.Uniform.{made-refused, made-taken}
use Rattle.quotient.proofs.Grid.made.Goals as goal

pub returns-in_err-check_with_sides : goal.returns-in_err-check_with_sides
returns-in_err-check_with_sides c = rw (passed_on c.from_residual.ensures.1) (made-refused _ _ (sym c.in_err-check_with_sides.was ∙ c.check_with_sides.ensures))

pub returns : goal.returns
returns c = made-taken _ (sym c.in_ok-check_with_sides.was ∙ c.check_with_sides.ensures)
