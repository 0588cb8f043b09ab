pub mod Laws
pub mod Fair
pub mod Enough
pub mod Figures
