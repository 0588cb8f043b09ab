-- `quotient::Grid::check` meets its contract: it is the check within document 01's limits. Assumes nothing.
use Rattle.quotient.specs.Shape.{check_of}
use Rattle.quotient.proofs.Grid.check.Goals as goal

pub returns : goal.returns
unfolding check_of
returns c = c.check_within.ensures
