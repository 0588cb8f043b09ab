-- What the contracts of `planner_chained` cite.
pub mod Said
