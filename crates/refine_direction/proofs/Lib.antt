pub mod Ranks
pub mod Parity
pub mod Children
pub mod Direction
pub mod Tested
pub mod Figures
pub mod Strip
