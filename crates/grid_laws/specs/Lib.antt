-- What the laws speak of.
pub mod Said
pub mod Counts
pub mod Tangled
