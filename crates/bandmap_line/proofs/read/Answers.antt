-- `bandmap_line::read` meets its contract, part by part. Assumes nothing.
use Rattle.bandmap_line.proofs.Parts.{spaced-fits, taken-same}
use Rattle.bandmap_line.proofs.Whole.{no-south, no-north, not-ended, whole}
use mathlib.Core.Path.{sym, ◌∙◌}
use Rattle.bandmap_line.proofs.read.Goals as goal

pub returns-in_default-spaced : goal.returns-in_default-spaced
returns-in_default-spaced c = sym (no-south c.args.bytes.now c.if-bytes-eq0.false (sym c.is_digit.ensures ∙ c.if-not-is_digit.false) c.if-d-lt1.false c.if-d-gt-MOST_DIMENSION.false _ _ c.in-Some.ensures c.in_default-spaced.ensures)

pub returns-in_default-spaced-2 : goal.returns-in_default-spaced-2
returns-in_default-spaced-2 c = sym (no-north c.args.bytes.now c.if-bytes-eq0.false (sym c.is_digit.ensures ∙ c.if-not-is_digit.false) c.if-d-lt1.false c.if-d-gt-MOST_DIMENSION.false _ _ c.in-Some.ensures _ _ c.in-Some-spaced.ensures c.in_default-spaced-2.ensures)

pub returns-then-ends : goal.returns-then-ends
returns-then-ends c = taken-same _ _ _ (spaced-fits _ _ _ c.in-Some-spaced.ensures) (spaced-fits _ _ _ c.in-Some-spaced-2.ensures) ∙ sym (whole c.args.bytes.now c.if-bytes-eq0.false (sym c.is_digit.ensures ∙ c.if-not-is_digit.false) c.if-d-lt1.false c.if-d-gt-MOST_DIMENSION.false _ _ c.in-Some.ensures _ _ c.in-Some-spaced.ensures _ _ c.in-Some-spaced-2.ensures (sym c.ends.ensures ∙ c.if-ends.true))

pub returns : goal.returns
returns c = sym (not-ended c.args.bytes.now c.if-bytes-eq0.false (sym c.is_digit.ensures ∙ c.if-not-is_digit.false) c.if-d-lt1.false c.if-d-gt-MOST_DIMENSION.false _ _ c.in-Some.ensures _ _ c.in-Some-spaced.ensures _ _ c.in-Some-spaced-2.ensures (sym c.ends.ensures ∙ c.if-ends.false))
