-- `planner_needs_grids::planner_need_cell_words` meets its contract: the lengths are written down one by one. Assumes nothing.
use Rattle.planner_needs_grids.proofs.Laws.{words-made}
use Rattle.planner_needs_grids.proofs.planner_need_cell_words.Goals as goal

pub returns : goal.returns
returns c = words-made _ _ _ _ c.corners-m.ensures c.key_room-k.ensures
