-- Laws that the proofs of `grid_chained_words` cite.
pub mod Listed
pub mod Checked
pub mod InPlace
