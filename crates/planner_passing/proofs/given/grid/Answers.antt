-- `planner_passing::given::grid` meets its contract, axis by axis. Assumes nothing.
use Rattle.planner_passing.proofs.Laws.{grid-made}
use Rattle.planner_passing.proofs.given.grid.Goals as goal

pub returns : goal.returns
returns c = grid-made _ _ _ c.axis.ensures c.axis-2.ensures c.axis-3.ensures c.sides.ensures
