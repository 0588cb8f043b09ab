pub mod Orders
pub mod Lists
pub mod Matching
pub mod Arranging
