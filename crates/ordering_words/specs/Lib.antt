pub mod Order
pub mod WorkArrange
