pub mod Points
pub mod Seek
pub mod Visiting
pub mod Numbering
pub mod Bear
pub mod Complex
