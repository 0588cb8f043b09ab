-- `orientation_by::mark_of` meets its contract, one number after the other. Assumes nothing.
use Rattle.orientation_by.proofs.Marks.{plus-mark, minus-mark, other-mark}
use Rattle.orientation_by.proofs.mark_of.Goals as goal

pub returns-then-sign-eq1 : goal.returns-then-sign-eq1
returns-then-sign-eq1 c = plus-mark _ c.ranges.sign c.if-sign-eq1.true

pub returns-then-sign-eqminus1 : goal.returns-then-sign-eqminus1
returns-then-sign-eqminus1 c = minus-mark _ c.ranges.sign c.if-sign-eqminus1.true

pub returns : goal.returns
returns c = other-mark c.args.sign c.if-sign-eq1.false c.if-sign-eqminus1.false
