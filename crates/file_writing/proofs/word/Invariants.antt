-- `file_writing::word` meets its contract. The invariant: the first i bytes of the word are written. Assumes nothing.
use Rattle.file_writing.specs.Wrote.{Wrote}
use lib.ListN.{take}
use Rattle.file_writing.proofs.word.Given as goal

abbrev pub invariant-loop-b : goal.invariant-loop-b
invariant-loop-b l = Wrote (take l.b-index l.w) l.at l.initial.to l.next l.to
