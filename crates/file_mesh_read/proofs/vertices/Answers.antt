-- `file_mesh_read::vertices` meets its contract. The invariant: the larger of `most` and one past the numbers from i on is the answer. Assumes nothing.
use Rattle.file_mesh_read.proofs.Parts.{top-more, top-end, top-begin}
use Rattle.file_mesh.specs.Mesh.{past}
use Prim.Native.Nat.{ℕ, max}
use native.Mathlib.Omega.{arith}
use mathlib.Core.List.{List}
use mathlib.Core.Path.{ap}
use Rattle.file_mesh_read.proofs.vertices.Goals as goal

pub loop-i-init : goal.loop-i-init
loop-i-init c = (omega arith, ap (λ (l : List ℕ). max c.args.top (past l)) (top-begin c.args.bytes.now c.args.n))

pub overflow_mul-i : goal.overflow_mul-i
overflow_mul-i c = omega (arith, c.requires, c.loop-i-test.true)

pub four-v-requires : goal.four-v-requires
four-v-requires c = omega (arith, c.requires, c.loop-i-test.true)

pub overflow_cast-v : goal.overflow_cast-v
overflow_cast-v c = omega (arith, c.four-v.type_inv)

pub loop-i-preserved : goal.loop-i-preserved
loop-i-preserved c =
    let m = top-more c.args.bytes.now c.args.n c.loop-i.i c.loop-i-test.true in
    (omega arith, omega arith)

pub returns : goal.returns
returns c =
    let e = top-end c.args.bytes.now c.args.n c.loop-i.i c.loop-i-test.false in
    omega arith
