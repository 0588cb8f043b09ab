pub mod Promise
pub mod WorkTest
