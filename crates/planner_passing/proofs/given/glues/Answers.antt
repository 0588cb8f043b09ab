-- `planner_passing::given::glues` meets its contract, gluing by gluing. Assumes nothing.
use Rattle.planner_passing.proofs.Laws.{glues-made}
use Rattle.planner_passing.proofs.given.glues.Goals as goal

pub returns : goal.returns
returns c = glues-made _ c.number-a.ensures c.number-b.ensures c.number-c.ensures c.glue.ensures c.glue-2.ensures c.glue-3.ensures
