-- `quotient::Grid::moebius` meets its contract.  Assumes nothing.
use lib.Ieee.{of_bits}
use Rattle.quotient.specs.Makers.{band_of}
use Rattle.quotient.proofs.Grid.moebius.Goals as goal

pub returns : goal.returns
unfolding band_of of_bits
returns c = c.quasi_uniform.ensures
