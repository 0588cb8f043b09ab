-- `grid_lengths::need` meets its contract. Assumes nothing.
use mathlib.Core.Path.{ap}
use Prim.Native.Nat.{ℕ, ◌*◌}
use native.Mathlib.Omega.{arith}
use Rattle.grid_lengths.proofs.Measuring.{visits-few}
use Rattle.grid_lengths.proofs.need.Goals as goal

pub overflow_mul-n : goal.overflow_mul-n
overflow_mul-n c = omega (arith, visits-few c.args.grid c.requires, c.visits-n.ensures)

pub returns : goal.returns
returns c = ap (λ (n : ℕ). record { keys = n * 2; rows = n * 2; spare = n * 2; counts = n * 2 }) c.visits-n.ensures
