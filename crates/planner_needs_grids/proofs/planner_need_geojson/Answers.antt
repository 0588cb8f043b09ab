-- `planner_needs_grids::planner_need_geojson` meets its contract: the lengths are written down one by one, and the file is no long one. Assumes nothing.
use native.Mathlib.Omega.{arith}
use Rattle.planner_needs_grids.proofs.Laws.{few-cells-told, map-made}
use Rattle.planner_needs_grids.proofs.planner_need_geojson.Goals as goal

pub overflow_mul-need : goal.overflow_mul-need
overflow_mul-need c = omega (arith, few-cells-told _ _ _ c.corners-m.ensures)

pub overflow_add-need-2 : goal.overflow_add-need-2
overflow_add-need-2 c = omega (arith, few-cells-told _ _ _ c.corners-m.ensures)

pub returns : goal.returns
returns c = map-made _ _ _ _ c.corners-m.ensures c.key_room-k.ensures
