pub mod Laws
pub mod Members
pub mod Front
pub mod Rows
pub mod Words
pub mod Flat
pub mod Tables
pub mod Sums
