-- `complex_incidence::cell_of` meets its contract. Assumes nothing.
use native.Mathlib.Nat.{div-le_self}
use native.Mathlib.Omega.{arith}
use Rattle.complex_incidence.proofs.cell_of.Goals as goal

pub overflow_cast-result : goal.overflow_cast-result
overflow_cast-result c = omega (arith, div-le_self c.args.corner c.args.n)
