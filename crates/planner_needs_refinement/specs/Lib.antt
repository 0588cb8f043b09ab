pub mod Needs
pub mod Work
