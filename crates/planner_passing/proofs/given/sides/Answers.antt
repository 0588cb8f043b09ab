-- `planner_passing::given::sides` meets its contract, side by side. Assumes nothing.
use Rattle.planner_passing.proofs.Laws.{sides-made}
use Rattle.planner_passing.proofs.given.sides.Goals as goal

pub returns : goal.returns
returns c = sides-made _ c.side.ensures c.side-2.ensures c.side-3.ensures
