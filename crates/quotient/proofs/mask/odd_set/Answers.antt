-- `quotient::mask::odd_set` meets its contract.  Assumes nothing.
use Rattle.quotient.specs.Shape.{odd_set}
use Rattle.quotient.proofs.Sets.{ones-size}
use Rattle.quotient.proofs.mask.odd_set.Goals as goal

pub returns : goal.returns
unfolding odd_set
returns c = rw (ones-size _ c.ranges.m.fits)
