-- `quotient::Grid::axis` meets its contract.  Assumes nothing.
use mathlib.Core.Path.{◌≡◌}
use native.Mathlib.Omega.{arith}
use Rattle.quotient.specs.Shape.{axis_of}
use Rattle.quotient.proofs.Axes.{past-last}
use Rattle.quotient.proofs.Grid.axis.Goals as goal

pub returns-then-i-lt1 : goal.returns-then-i-lt1
unfolding axis_of
returns-then-i-lt1 c = let e : c.args.i ≡ 0 = omega arith in rw e

pub returns-then-i-lt2 : goal.returns-then-i-lt2
unfolding axis_of
returns-then-i-lt2 c = let e : c.args.i ≡ 1 = omega arith in rw e

pub returns-then-i-lt-MOST_DIMENSION : goal.returns-then-i-lt-MOST_DIMENSION
unfolding axis_of
returns-then-i-lt-MOST_DIMENSION c = let e : c.args.i ≡ 2 = omega arith in rw e

pub returns-else-i-lt-MOST_DIMENSION : goal.returns-else-i-lt-MOST_DIMENSION
returns-else-i-lt-MOST_DIMENSION c = past-last _ _ c.if-i-lt-MOST_DIMENSION.false
