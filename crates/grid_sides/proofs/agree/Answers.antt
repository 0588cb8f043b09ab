-- `grid_sides::agree` meets its contract.  Assumes nothing.
use lib.Ieee.{of_bits}
use Rattle.grid_sides.specs.Lengths.{agrees}
use Rattle.grid_sides.proofs.Size.{below-zero, not-below-zero}
use Rattle.grid_sides.proofs.agree.Goals as goal

pub returns-then-e : goal.returns-then-e
unfolding agrees of_bits
returns-then-e c = below-zero _ _ c.if-e.true

pub returns-else-e : goal.returns-else-e
unfolding agrees of_bits
returns-else-e c = not-below-zero _ _ c.if-e.false
