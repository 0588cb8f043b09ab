-- What the contracts of `planner_mesh_files` cite.
pub mod Read
