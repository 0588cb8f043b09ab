pub mod Turns
pub mod Members
