-- `planner_needs_files::within` meets its contract: each exit is a case of the definition. Assumes nothing.
use Rattle.planner_needs_files.proofs.Laws.{within_none, within-taken}
use Rattle.planner_needs_files.proofs.within.Goals as goal

pub returns-then-most-n : goal.returns-then-most-n
returns-then-most-n c = within_none _ c.if-most-n.true

pub returns : goal.returns
returns c = within-taken _ c.if-most-n.false
