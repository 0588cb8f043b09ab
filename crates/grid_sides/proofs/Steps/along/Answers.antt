-- `grid_sides::Steps::along` meets its contract.  Assumes nothing.
use Rattle.std.proofs.Common.{◌≡◌, arith}
use lib.Ieee.{of_bits}
use Rattle.grid_sides.specs.Lengths.{step_of}
use Rattle.grid_sides.proofs.Runs.{step_past}
use Rattle.grid_sides.proofs.Steps.along.Goals as goal

pub returns-then-i-lt1 : goal.returns-then-i-lt1
unfolding step_of
returns-then-i-lt1 c = let e : c.args.i ≡ 0 = omega arith in rw e

pub returns-then-i-lt2 : goal.returns-then-i-lt2
unfolding step_of
returns-then-i-lt2 c = let e : c.args.i ≡ 1 = omega arith in rw e

pub returns-then-i-lt-MOST_DIMENSION : goal.returns-then-i-lt-MOST_DIMENSION
unfolding step_of
returns-then-i-lt-MOST_DIMENSION c = let e : c.args.i ≡ 2 = omega arith in rw e

pub returns-else-i-lt-MOST_DIMENSION : goal.returns-else-i-lt-MOST_DIMENSION
unfolding of_bits
returns-else-i-lt-MOST_DIMENSION c = step_past _ _ c.if-i-lt-MOST_DIMENSION.false
