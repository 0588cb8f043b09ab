-- Laws that the proofs of `grid_chained` cite.
pub mod Turns
pub mod Orbit
pub mod Stepping
pub mod Unique
pub mod Numbering
pub mod Taken
pub mod Levelling
pub mod Searching
pub mod There
pub mod Entry
pub mod Determined
pub mod BothModes
pub mod Counts
pub mod Square
pub mod Modes
pub mod Figures
