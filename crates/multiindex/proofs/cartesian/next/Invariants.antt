-- The first digits, as many as the loop has passed, are 0 again, and the rest stands as it stood. Assumes nothing.
use Rattle.multiindex.proofs.Digits.{Carried}
use Rattle.multiindex.proofs.cartesian.next.Given as goal

abbrev pub invariant-loop-digit : goal.invariant-loop-digit
invariant-loop-digit l = Carried l.n l.initial.digits l.digit-index l.digits
