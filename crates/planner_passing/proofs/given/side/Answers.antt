-- `planner_passing::given::side` meets its contract. Assumes nothing.
use lib.Ieee.{of_bits}
use Rattle.planner_passing.proofs.Laws.{side-there, side-past}
use Rattle.planner_passing.proofs.given.side.Goals as goal

pub returns-then-i-list : goal.returns-then-i-list
returns-then-i-list c = side-there _ _ _ c.if-i-list.true

pub returns-else-i-list : goal.returns-else-i-list
unfolding of_bits
returns-else-i-list c = side-past _ _ c.if-i-list.false
