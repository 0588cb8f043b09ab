-- `quotient::mask::bad_set` meets its contract: a set is bad where it has the axis itself, or where something of its mask is left above digit d. Assumes nothing.
use mathlib.Core.Path.{sym, ◌∙◌}
use Rattle.quotient.proofs.Masks.{bad-own, bad-high, bad-none}
use Rattle.quotient.proofs.mask.bad_set.Goals as goal

pub returns-then-member_of : goal.returns-then-member_of
returns-then-member_of c = sym (bad-own _ _ _ c.ranges.m.fits (sym c.member_of.ensures ∙ c.if-member_of.true))

pub returns-then-d-lt8 : goal.returns-then-d-lt8
returns-then-d-lt8 c = sym (bad-high _ _ _ c.ranges.m.fits (sym c.member_of.ensures ∙ c.if-member_of.false) c.if-d-lt8.true)

pub returns-else-d-lt8 : goal.returns-else-d-lt8
returns-else-d-lt8 c = sym (bad-none _ _ _ (sym c.member_of.ensures ∙ c.if-member_of.false) c.if-d-lt8.false)
