-- Laws that the proofs of `grid_chained_mesh` cite.
pub mod Steps
pub mod Entry
pub mod Determined
pub mod Figures
