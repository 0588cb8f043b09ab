-- What the contracts of `file_geojson` cite.
pub mod Words
pub mod Degrees
pub mod File
pub mod Kind
pub mod Promise
pub mod Work
