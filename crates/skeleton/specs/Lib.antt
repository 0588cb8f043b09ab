pub mod Promise
pub mod Parts
pub mod Work
