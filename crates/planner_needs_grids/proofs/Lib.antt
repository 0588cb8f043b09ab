pub mod Laws
pub mod Enough
pub mod EnoughChained
