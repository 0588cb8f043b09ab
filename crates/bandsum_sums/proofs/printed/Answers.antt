-- `bandsum_sums::printed` meets its contract: the line is refused, or its grid is, or the six lines are told. Assumes nothing.
use mathlib.Core.Path.{sym, subst, ap, ◌∙◌}
use Prim.Native.Nat.{ℕ}
use Rattle.bandsum_lines.specs.Lines.{refused_line}
use Rattle.text.specs.Adds.{holding}
use Rattle.bandsum_sums.specs.Promise.{SumsOf, unread, refusal, six}
use Rattle.bandsum_sums.proofs.printed.Goals as goal

pub returns-in-Err : goal.returns-in-Err
returns-in-Err c = record { lines = _; prints = unread (sym c.read.ensures ∙ c.in-Err.is); holds = c.refused.ensures ∙ ap (λ (n : ℕ). holding (refused_line n)) c.number.ensures }

pub returns-in-Err-sums : goal.returns-in-Err-sums
returns-in-Err-sums c = record { lines = _; prints = refusal (sym c.read.ensures ∙ c.in-Ok.is) (subst (SumsOf _) c.in-Err-sums.is c.sums.ensures); holds = c.refused-in-Err-sums.ensures ∙ ap (λ (n : ℕ). holding (refused_line n)) c.number-in-Err-sums.ensures }

pub returns-in-Ok-sums : goal.returns-in-Ok-sums
returns-in-Ok-sums c = record { lines = _; prints = six (sym c.read.ensures ∙ c.in-Ok.is) (subst (SumsOf _) c.in-Ok-sums.is c.sums.ensures); holds = c.lines.ensures }
