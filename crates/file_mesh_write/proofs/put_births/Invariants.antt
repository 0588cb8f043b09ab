-- `file_mesh_write::put_births` meets its contract. The invariant: the records of the births before birth k, whose pairs end at p, are written. Assumes nothing.
use Rattle.file_mesh_write.proofs.Loops.{BirthsAt}
use Prim.Native.Nat.{◌*◌}
use Rattle.file_mesh_write.proofs.put_births.Given as goal

abbrev pub invariant-loop-k : goal.invariant-loop-k
invariant-loop-k l = BirthsAt l.births l.pairs l.initial.to l.to l.at l.p (l.k * 3)
