-- `planner_geojson::planner_geojson` meets its contract: the grid is the one given, and the answer is the call's. Assumes nothing.
use Rattle.planner_geojson.proofs.Laws.{map-said}
use Rattle.planner_geojson.proofs.planner_geojson.Goals as goal

pub returns : goal.returns
returns c = map-said c.ranges.south c.ranges.north c.counted.ensures c.geojson.ensures c.plain-g.ensures
