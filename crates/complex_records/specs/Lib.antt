pub mod Record
pub mod Promise
pub mod Work
