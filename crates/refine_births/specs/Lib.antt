pub mod Support
pub mod WorkVisits
pub mod WorkNumbers
pub mod Promise
