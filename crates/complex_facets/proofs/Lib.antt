pub mod Numbers
pub mod Passing
pub mod Border
pub mod Tabling
pub mod Recording
pub mod Joining
