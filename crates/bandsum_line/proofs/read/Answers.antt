-- `bandsum_line::read` meets its contract where bytes follow the line's end. Assumes nothing.
use mathlib.Core.Path.{sym, ◌∙◌}
use Rattle.bandsum_line.proofs.Numerals.{read-not-ended}
use Rattle.bandsum_line.proofs.read.Goals as goal

pub returns : goal.returns
returns c = sym (read-not-ended _ c.if-bytes-eq0.false (sym c.is_digit.ensures ∙ c.if-not-is_digit.false) c.if-d-lt1.false c.if-d-gt-MOST_DIMENSION.false _ _ c.in-Some.ensures (sym c.ends.ensures ∙ c.if-ends.false))
