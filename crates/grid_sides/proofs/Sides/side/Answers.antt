-- `grid_sides::Sides::side` meets its contract.  Assumes nothing.
use Rattle.std.proofs.Common.{◌≡◌, arith}
use lib.Ieee.{of_bits}
use Rattle.grid_sides.specs.Counts.{side_of}
use Rattle.grid_sides.proofs.Runs.{side-past}
use Rattle.grid_sides.proofs.Sides.side.Goals as goal

pub returns-then-i-lt1 : goal.returns-then-i-lt1
unfolding side_of
returns-then-i-lt1 c = let e : c.args.i ≡ 0 = omega arith in rw e

pub returns-then-i-lt2 : goal.returns-then-i-lt2
unfolding side_of
returns-then-i-lt2 c = let e : c.args.i ≡ 1 = omega arith in rw e

pub returns-then-i-lt-MOST_DIMENSION : goal.returns-then-i-lt-MOST_DIMENSION
unfolding side_of
returns-then-i-lt-MOST_DIMENSION c = let e : c.args.i ≡ 2 = omega arith in rw e

pub returns-else-i-lt-MOST_DIMENSION : goal.returns-else-i-lt-MOST_DIMENSION
unfolding of_bits
returns-else-i-lt-MOST_DIMENSION c = side-past _ _ c.if-i-lt-MOST_DIMENSION.false
