-- Laws that the proofs of `file_geojson` cite.
pub mod Sizes
pub mod Places
pub mod Boxes
pub mod Vertices
pub mod Numbers
pub mod Angles
pub mod Rings
pub mod Listing
pub mod Poles
pub mod Ends
pub mod Determined
