-- `listed` meets its contract: it ends with the refusal of its checks, or with the pattern. Assumes nothing.
use Rattle.refusal.proofs.Chain.{passed_on}
use mathlib.Core.Path.{sym, ◌∙◌}
use lib.ListN.{length}
use Rattle.refine_pattern.proofs.Checks.{few, ready, ends-refused, ends-listed}
use Rattle.refine_pattern.proofs.listed.Goals as goal

pub returns-in_err-check : goal.returns-in_err-check
returns-in_err-check c = rw (passed_on c.from_residual.ensures.1) (ends-refused _ _ c.args.to.now _ (sym c.check.ensures ∙ c.in_err-check.was))

pub pattern-requires : goal.pattern-requires
pattern-requires c =
    ready _ _ _ (sym c.check.ensures ∙ c.in_ok-check.was)

pub count-requires : goal.count-requires
count-requires c =
    few _ _ (length c.args.to.now) (sym c.check.ensures ∙ c.in_ok-check.was)

pub returns : goal.returns
returns c =
    ends-listed _ _ c.args.to.now c.count.result c.pattern.new.to
    (sym c.check.ensures ∙ c.in_ok-check.was) c.count.ensures c.pattern.ensures
