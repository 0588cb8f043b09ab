-- What the contracts of `file_bytes` cite.
pub mod Bytes
