-- `planner_passing::given::number` meets its contract. Assumes nothing.
use Rattle.planner_passing.proofs.Laws.{entry-there, entry_past}
use Rattle.planner_passing.proofs.given.number.Goals as goal

pub returns-then-i-list : goal.returns-then-i-list
returns-then-i-list c = entry-there _ _ c.if-i-list.true

pub returns-else-i-list : goal.returns-else-i-list
returns-else-i-list c = entry_past _ _ c.if-i-list.false
