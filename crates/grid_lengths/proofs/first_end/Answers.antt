-- `grid_lengths::first_end` meets its contract. Assumes nothing.
use native.Mathlib.Omega.{arith}
use Rattle.grid_lengths.proofs.Measuring.{end-small}
use Rattle.grid_lengths.proofs.first_end.Goals as goal

pub overflow_cast-result : goal.overflow_cast-result
overflow_cast-result c = omega (arith, end-small c.args.e c.requires)
