pub mod Composition
pub mod Refinement
pub mod Unrefined
pub mod Calls
pub mod Demand
pub mod Word
