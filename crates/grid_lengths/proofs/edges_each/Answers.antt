-- `grid_lengths::edges_each` meets its contract. Assumes nothing.
use Prim.Native.Nat.{◌+◌}
use native.Mathlib.Omega.{arith}
use native.Mathlib.Nat.{mul-le-mul_right}
use Rattle.grid_lengths.proofs.edges_each.Goals as goal

pub overflow_mul-result : goal.overflow_mul-result
overflow_mul-result c = let d = c.args.d in let a = mul-le-mul_right (d + 1) c.requires.1 in omega arith
