-- `inside` meets its contract: past the first test R is at least 1. Assumes nothing.
use Rattle.refine_pattern.proofs.Checks.{inside_is}
use Rattle.refine_pattern.proofs.inside.Goals as goal

pub returns : goal.returns
returns c = inside_is c.args.r c.if-r-eq0.false
