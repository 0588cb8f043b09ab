-- Laws that the proofs of `text` cite.
pub mod Adding
pub mod Decimals
pub mod Figures
