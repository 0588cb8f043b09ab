-- Laws that the proof of `planner_geojson` cites.
pub mod Laws
