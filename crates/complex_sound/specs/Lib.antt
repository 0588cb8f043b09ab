-- What the contracts of `complex_sound` cite.
pub mod Promise
pub mod Work
