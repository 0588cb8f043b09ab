pub mod Bounds
pub mod Ends
pub mod Determined
pub mod Fits
pub mod Enough
