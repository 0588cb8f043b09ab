-- `planner_passing::given::hand_out` meets its contract, number by number. Assumes nothing.
use Rattle.planner_passing.proofs.Laws.{axes-made}
use Rattle.planner_passing.proofs.given.hand_out.Goals as goal

pub returns : goal.returns
returns c = axes-made _ c.code-x.ensures c.code-y.ensures c.code-z.ensures
