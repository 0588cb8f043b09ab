-- `file_mesh_read::list_pairs` meets its contract. The invariant: the first k pairs are read. Assumes nothing.
use Rattle.file_mesh_read.proofs.Listed.{PairsRead}
use Rattle.file_mesh_read.proofs.list_pairs.Given as goal

abbrev pub invariant-loop-k : goal.invariant-loop-k
invariant-loop-k l = PairsRead l.count l.from l.bytes l.initial.to l.to l.k
