-- Laws that the proofs of `grid_lengths` cite.
pub mod Measuring
pub mod Boxed
pub mod Skipped
pub mod Values
pub mod Notes
pub mod Gathered
pub mod Steps
pub mod Entry
pub mod Determined
pub mod Every
pub mod NoEdge
