-- What the contracts of `grid_swath` cite.
pub mod Swath
