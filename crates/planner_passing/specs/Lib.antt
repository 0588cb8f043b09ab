pub mod Said
pub mod Given
pub mod Decoding
