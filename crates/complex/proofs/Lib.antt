pub mod Fine
pub mod Figures
