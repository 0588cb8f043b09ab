-- `planner_drop_cells::planner_drop_cells` meets its contract: the answer is the call's. Assumes nothing.
use Rattle.planner_drop_cells.proofs.planner_drop_cells.Goals as goal

pub returns : goal.returns
returns c = record { answer = c.drop_cells-answer.result; coded = c.passed.ensures.value; meets = (c.drop_cells-answer.ensures, c.passed.ensures.vertices_after) }
