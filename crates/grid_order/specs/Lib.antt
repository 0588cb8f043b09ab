-- What the contracts of `grid_order` cite.
pub mod Promise
pub mod Work
