-- Laws that the proofs of `grid_order` cite.
pub mod Steps
pub mod Determined
pub mod Finish
pub mod Entry
