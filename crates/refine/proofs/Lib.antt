pub mod Along
pub mod Reading
pub mod Needed
pub mod Entry
pub mod Steps
pub mod Determined
pub mod Bound
pub mod Figures
