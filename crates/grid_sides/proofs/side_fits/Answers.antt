-- `grid_sides::side_fits` meets its contract.  Assumes nothing.
use lib.Ieee.{of_bits}
use Rattle.grid_sides.specs.Counts.{side_fits}
use Rattle.grid_sides.proofs.side_fits.Goals as goal

pub returns-then-x : goal.returns-then-x
unfolding side_fits of_bits
returns-then-x c = rw c.if-x.true

pub returns-else-x : goal.returns-else-x
unfolding side_fits of_bits
returns-else-x c = rw c.if-x.false
