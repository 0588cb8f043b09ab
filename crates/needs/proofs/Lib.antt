pub mod Laws
pub mod Sizes
pub mod Enough
