-- What the contracts of `grid_lengths` cite.
pub mod Edges
pub mod Settled
pub mod Noted
pub mod Lengths
pub mod Work
