pub mod Case
pub mod Starred
