-- Laws that the proofs of `bandmap_line` cite.
pub mod Parts
pub mod Integers
pub mod Whole
pub mod Figures
