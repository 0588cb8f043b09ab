pub mod Bucket
pub mod Order
pub mod Distinct
pub mod Gather
