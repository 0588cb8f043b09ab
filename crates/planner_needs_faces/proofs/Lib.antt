pub mod Laws
pub mod Counting
pub mod Sizes
pub mod Enough
