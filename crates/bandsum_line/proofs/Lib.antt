-- Laws that the proofs of `bandsum_line` cite.
pub mod Front
pub mod Numerals
pub mod Figures
pub mod Long
