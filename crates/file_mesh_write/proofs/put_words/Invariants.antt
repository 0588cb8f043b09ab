-- `file_mesh_write::put_words` meets its contract. The invariant: the records of the first k words are written. Assumes nothing.
use Rattle.file_mesh_write.proofs.Loops.{WordsAt}
use Rattle.file_mesh_write.proofs.put_words.Given as goal

abbrev pub invariant-loop-k : goal.invariant-loop-k
invariant-loop-k l = WordsAt l.d l.words l.initial.to l.to l.at l.k
