pub mod Sort
pub mod Swaps
pub mod Sign
pub mod Permutation
pub mod Cartesian
