-- `quotient::mask::member_of` meets its contract. Assumes nothing.
use mathlib.Core.Path.{sym}
use Rattle.quotient.proofs.Laws.{no_member}
use Rattle.quotient.proofs.mask.member_of.Goals as goal

pub returns-else-j-lt8 : goal.returns-else-j-lt8
returns-else-j-lt8 c = sym (no_member _ _ c.ranges.m.fits c.if-j-lt8.false)
