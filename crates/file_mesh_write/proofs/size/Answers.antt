-- `file_mesh_write::size` meets its contract: no list is so long that the size does not fit. Assumes nothing.
use native.Mathlib.Nat.{div-le_self}
use Prim.Native.Nat.{◌<◌}
use native.Mathlib.Nat.{mul-le-mul}
use Prim.Native.Nat.{ℕ, ◌+◌, ◌*◌, ◌/◌, ◌≤◌}
use native.Mathlib.Omega.{arith}
use Rattle.refusal.specs.Limits.{most_dimension, many_corners}
use Rattle.file_mesh_write.proofs.size.Goals as goal

cells-few : (words d : ℕ) → words < many_corners → d ≤ most_dimension → words / (d + 1) * (10 + 4 * d) ≤ many_corners * (10 + 4 * most_dimension)
cells-few words d h k =
    mul-le-mul {n₁ = words / (d + 1)} {m₁ = 10 + 4 * d} {n₂ = many_corners} {m₂ = 10 + 4 * most_dimension} (omega (arith, div-le_self words (d + 1))) (omega arith)

pub overflow_mul-result-2 : goal.overflow_mul-result-2
overflow_mul-result-2 c = omega (arith, cells-few c.args.words c.args.d (omega arith) (omega arith))

pub overflow_add-result-2 : goal.overflow_add-result-2
overflow_add-result-2 c = omega (arith, cells-few c.args.words c.args.d (omega arith) (omega arith))

pub overflow_add-result-3 : goal.overflow_add-result-3
overflow_add-result-3 c = omega (arith, cells-few c.args.words c.args.d (omega arith) (omega arith))

pub overflow_add-result-4 : goal.overflow_add-result-4
overflow_add-result-4 c = omega (arith, cells-few c.args.words c.args.d (omega arith) (omega arith))
