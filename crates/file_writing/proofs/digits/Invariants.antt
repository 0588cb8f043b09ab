-- `file_writing::digits` meets its contract. The invariant: the digits from 10 to the power k down to the one before j are written. Assumes nothing.
use Rattle.file_writing.proofs.Down.{Down}
use Rattle.file_writing.proofs.digits.Given as goal

abbrev pub invariant-loop-j : goal.invariant-loop-j
invariant-loop-j l = Down l.k l.n l.j l.at l.initial.to l.next l.to
