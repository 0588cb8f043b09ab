pub mod WorkChains
pub mod Table
pub mod Promise
