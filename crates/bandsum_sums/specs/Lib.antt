-- What the contracts of `bandsum_sums` cite.
pub mod Promise
pub mod Work
pub mod Says
