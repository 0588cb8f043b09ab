pub mod Refined
pub mod Says
pub mod WorkFlat
pub mod Results
pub mod WorkStage
pub mod WorkSteps
