pub mod Tags
pub mod Steps
pub mod Determined
pub mod Agreement
