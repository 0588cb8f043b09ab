-- What the contracts of `grid_words` cite.
pub mod Cells
pub mod WorkNumbered
pub mod Work
