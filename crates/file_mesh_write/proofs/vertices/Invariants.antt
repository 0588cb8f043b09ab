-- `file_mesh_write::vertices` meets its contract. The invariant: the larger of `top` and one past the numbers still to come is one past all numbers. Assumes nothing.
use Rattle.file_mesh.specs.Mesh.{past}
use lib.ListN.{drop}
use Prim.Native.Nat.{◌≤◌, max}
use mathlib.Core.Path.{◌≡◌}
use Rattle.file_mesh_write.proofs.vertices.Given as goal

abbrev pub invariant-loop-v : goal.invariant-loop-v
invariant-loop-v l = (past l.words ≡ max l.top (past (drop l.v-index l.words))) × (l.top ≤ 4294967296)
