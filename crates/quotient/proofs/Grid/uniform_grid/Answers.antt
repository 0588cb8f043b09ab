-- `quotient::Grid::uniform_grid` meets its contract. Assumes nothing.
use Rattle.quotient.proofs.Uniform.{uniform-made}
use Rattle.quotient.proofs.Grid.uniform_grid.Goals as goal

pub returns : goal.returns
returns c = uniform-made _ _ _ _ _ _ _ _ c.uniform_axis-first.ensures c.uniform_axis-second.ensures c.uniform_axis-third.ensures c.below-sides.ensures
