-- `planner_passing::given::axis` meets its contract: its parts are the numbers at the two places. Assumes nothing.
use Rattle.planner_passing.proofs.Laws.{axis-made}
use Rattle.planner_passing.proofs.given.axis.Goals as goal

pub returns : goal.returns
returns c = axis-made _ _ _ c.number-n.ensures c.number-code.ensures c.glue-g.ensures
