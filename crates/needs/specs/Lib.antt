pub mod Needs
pub mod Enough
