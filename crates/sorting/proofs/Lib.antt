pub mod Laws
pub mod Sorts
pub mod Colex
pub mod Firsts
pub mod Rows
mod Turn
mod Mark
