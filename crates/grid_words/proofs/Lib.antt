-- Laws that the proofs of `grid_words` cite.
pub mod Corners
pub mod Inside
pub mod Flat
pub mod Listed
pub mod Good
pub mod Moved
pub mod Touched
pub mod Figures
