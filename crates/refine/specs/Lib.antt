pub mod Space
pub mod WorkReading
pub mod WorkCoarse
pub mod Promise
pub mod Work
