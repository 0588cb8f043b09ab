-- `grid_sides::Sides::kept` meets its contract. Assumes nothing.
use Rattle.std.proofs.Common.{le-ltb, lt-ltb}
use lib.Ieee.{of_bits}
use Rattle.grid_sides.specs.Counts.{kept_side}
use Rattle.grid_sides.proofs.Sides.kept.Goals as goal

pub returns-then-i-d : goal.returns-then-i-d
unfolding kept_side
returns-then-i-d c = rw (lt-ltb _ _ c.if-i-d.true) c.side.ensures

pub returns-else-i-d : goal.returns-else-i-d
unfolding kept_side of_bits
returns-else-i-d c = rw (le-ltb _ _ c.if-i-d.false)
