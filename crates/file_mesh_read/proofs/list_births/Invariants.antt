-- `file_mesh_read::list_births` meets its contract. The invariant: the first k births are read. Assumes nothing.
use Rattle.file_mesh_read.proofs.Taken.{BirthsRead}
use Rattle.file_mesh_read.proofs.list_births.Given as goal

abbrev pub invariant-loop-k : goal.invariant-loop-k
invariant-loop-k l = BirthsRead l.many l.from l.bytes l.initial.births l.initial.pairs l.births l.pairs l.at l.p l.k
