-- `grid_lengths::along` meets its contract. Assumes nothing.
use mathlib.Core.Path.{ap}
use native.Mathlib.Omega.{arith}
use Rattle.quotient.specs.declared.Axis.{Axis}
use Rattle.quotient.proofs.Points.{coord-le}
use Rattle.grid_lengths.proofs.along.Goals as goal

pub returns-else-c-n : goal.returns-else-c-n
returns-else-c-n c = omega (arith, coord-le c.args.grid c.args.v c.args.k, ap (λ (a : Axis). a.count) c.axis-a.ensures, c.coordinate-c.ensures)
