-- `quotient::Grid::points_on` meets its contract.  Assumes nothing.
use mathlib.Core.Path.{ap}
use Prim.Native.Nat.{◌+◌}
use Rattle.quotient.specs.declared.Axis.{Axis}
use Rattle.quotient.proofs.Grid.points_on.Goals as goal

pub returns : goal.returns
returns c = ap (λ (a : Axis). a.count + 1) c.axis-a.ensures
