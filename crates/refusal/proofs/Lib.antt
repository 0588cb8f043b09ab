pub mod Chain
pub mod Determined
pub mod Parts
