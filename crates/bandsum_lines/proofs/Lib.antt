-- Laws that the proofs of `bandsum_lines` cite.
pub mod Laws
pub mod Figures
