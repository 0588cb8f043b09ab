-- Laws that the proofs of `grid_swath` cite, and what its promise says of single calls.
pub mod Steps
pub mod Laws
pub mod Figures
