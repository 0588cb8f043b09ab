-- `file_mesh_read::vertices` meets its contract. The invariant: the larger of `most` and one past the numbers from i on is the answer. Assumes nothing.
use Rattle.file_mesh.specs.Mesh.{past}
use Rattle.file_bytes.specs.Bytes.{fours_of}
use lib.ListN.{drop}
use Prim.Native.Nat.{◌*◌, ◌-◌, ◌≤◌, max}
use mathlib.Core.Path.{◌≡◌}
use Rattle.file_mesh_read.proofs.vertices.Given as goal

abbrev pub invariant-loop-i : goal.invariant-loop-i
invariant-loop-i l = (l.i ≤ l.n) × (max l.top (past (fours_of l.n l.bytes)) ≡ max l.most (past (fours_of (l.n - l.i) (drop (l.i * 4) l.bytes))))
