-- `planner_needs_grids::planner_grid_corners` meets its contract: the grid is the one given, and the answer is the count's. Assumes nothing.
use mathlib.Core.Path.{ap, ◌∙◌}
use Rattle.planner_passing.specs.Said.{counted_code}
use Rattle.planner_needs_grids.specs.Needs.{corners_said}
use Rattle.planner_needs_grids.proofs.planner_grid_corners.Goals as goal

pub returns : goal.returns
returns c = c.counted.ensures ∙ ap counted_code (c.corners_of.ensures ∙ ap corners_said c.plain-g.ensures)
