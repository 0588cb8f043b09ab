pub mod Laws
pub mod Sizes
pub mod Enough
pub mod Figures
