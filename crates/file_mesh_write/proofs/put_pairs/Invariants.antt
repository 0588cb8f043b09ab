-- `file_mesh_write::put_pairs` meets its contract. The invariant: the first k pairs are written. Assumes nothing.
use Rattle.file_mesh_write.proofs.Loops.{PairsAt}
use Prim.Native.Nat.{◌+◌}
use Rattle.file_mesh_write.proofs.put_pairs.Given as goal

abbrev pub invariant-loop-k : goal.invariant-loop-k
invariant-loop-k l = PairsAt l.pairs l.initial.to l.to l.at (l.k + l.k)
