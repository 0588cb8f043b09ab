-- What the contracts of `grid_mesh` cite.
pub mod Words
pub mod Work
