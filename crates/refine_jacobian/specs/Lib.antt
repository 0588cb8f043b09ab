pub mod Entries
pub mod WorkWeights
