-- `file_mesh_read::list_words` meets its contract. The invariant: the first k words are read. Assumes nothing.
use Rattle.file_mesh_read.proofs.Listed.{WordsRead}
use Rattle.file_mesh_read.proofs.list_words.Given as goal

abbrev pub invariant-loop-k : goal.invariant-loop-k
invariant-loop-k l = WordsRead l.n l.count l.bytes l.initial.to l.to l.k
