-- `bandmap::refused` meets its contract. Assumes nothing.
use Rattle.file_writing.proofs.Down.{number-long}
use native.Mathlib.Omega.{arith}
use Rattle.bandmap.proofs.refused.Goals as goal

pub word-c-requires : goal.word-c-requires
word-c-requires c = omega (arith, number-long _ c.number-b.ensures, c.word-a.ensures.next)
