-- Laws that the proofs of `file_writing` cite.
pub mod Laws
pub mod Down
