-- What the contracts of `grid_chained_mesh` cite.
pub mod Words
pub mod Work
