-- What the contracts of `file_writing` cite.
pub mod Wrote
pub mod Six
