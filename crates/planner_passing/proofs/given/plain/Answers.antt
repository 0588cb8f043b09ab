-- `planner_passing::given::plain` meets its contract, axis by axis. Assumes nothing.
use mathlib.Core.List.{[]}
use lib.Ieee.{of_bits}
use Rattle.planner_passing.proofs.Laws.{grid-made, no_sides}
use Rattle.planner_passing.proofs.given.plain.Goals as goal

pub returns : goal.returns
unfolding of_bits
returns c = grid-made _ _ [] c.axis.ensures c.axis-2.ensures c.axis-3.ensures no_sides
