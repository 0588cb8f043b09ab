-- Laws that the proofs of `grid_mesh` cite.
pub mod Steps
pub mod Turns
pub mod Folding
pub mod Facing
pub mod Members
pub mod Words
pub mod Twice
pub mod Seams
pub mod Seven
pub mod Told
pub mod Entry
pub mod Determined
