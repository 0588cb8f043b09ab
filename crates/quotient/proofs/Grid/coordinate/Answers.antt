-- `quotient::Grid::coordinate` meets its contract.  Assumes nothing.
use Rattle.quotient.proofs.Points.{coord-of}
use Rattle.quotient.proofs.Grid.coordinate.Goals as goal

pub returns : goal.returns
returns c = coord-of _ _ _ _ _ c.rest.ensures c.points_on.ensures
