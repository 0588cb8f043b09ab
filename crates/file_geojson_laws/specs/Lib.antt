-- What the laws speak of.
pub mod Reading
pub mod Map
