pub mod Marks
pub mod Slots
pub mod Steps
pub mod Entry
pub mod Determined
