pub mod Check
pub mod Room
pub mod Cells
pub mod Facets
pub mod Skeleton
