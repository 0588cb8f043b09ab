-- `planner_needs_grids::planner_chained_corners` meets its contract: the grid is the one given, and the answer is the count's. Assumes nothing.
use mathlib.Core.Path.{ap, ◌∙◌}
use Rattle.planner_passing.specs.Said.{counted_code}
use Rattle.planner_needs_grids.specs.Needs.{chained_said}
use Rattle.planner_needs_grids.proofs.planner_chained_corners.Goals as goal

pub returns : goal.returns
returns c = c.counted.ensures ∙ ap counted_code (c.chained_corners_of.ensures ∙ ap chained_said c.plain-g.ensures)
