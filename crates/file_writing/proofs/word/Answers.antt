-- `file_writing::word` meets its contract. The invariant: the first i bytes of the word are written. Assumes nothing.
use Rattle.file_writing.proofs.Laws.{word_byte}
use Rattle.file_writing.proofs.word.Goals as goal

pub loop-b-preserved : goal.loop-b-preserved
loop-b-preserved c = word_byte _ _ c.loop-b-test.true c.loop-b.invariant c.byte-next.ensures
