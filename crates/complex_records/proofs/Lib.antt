pub mod Steps
pub mod Holding
pub mod Laws
pub mod BorderLaw
