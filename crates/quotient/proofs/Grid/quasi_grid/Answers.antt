-- `quotient::Grid::quasi_grid` meets its contract.  Assumes nothing.
use Rattle.quotient.proofs.Quasi.{grid-made}
use Rattle.quotient.proofs.Grid.quasi_grid.Goals as goal

pub returns : goal.returns
returns c = grid-made _ _ _ _ _ _ _ _ c.quasi_axis-first.ensures c.quasi_axis-second.ensures c.quasi_axis-third.ensures c.below-sides.ensures
