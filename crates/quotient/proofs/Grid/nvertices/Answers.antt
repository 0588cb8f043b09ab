-- `quotient::Grid::nvertices` meets its contract. Assumes nothing.
use Rattle.quotient.specs.Shape.{check_of, nvertices_of}
use Rattle.quotient.proofs.Grid.nvertices.Goals as goal

pub returns : goal.returns
unfolding nvertices_of check_of
returns c = c.count_within.ensures
