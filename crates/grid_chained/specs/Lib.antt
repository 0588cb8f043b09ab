-- What the contracts of `grid_chained` cite. A reader of the calls needs Classing, Shape, the three Promise files and Laws; the Work files are inner contracts.
pub mod Says
pub mod Classing
pub mod Shape
pub mod PromiseClasses
pub mod PromiseReduce
pub mod PromiseCount
pub mod Laws
pub mod WorkTurn
pub mod WorkNumber
pub mod WorkLevel
pub mod Work
