pub mod WorkClasses
pub mod Sides
pub mod Records
pub mod WorkSides
pub mod WorkRecords
pub mod WorkAcross
