pub mod Limits
pub mod Table
pub mod Says
pub mod Refuse
pub mod Lent
pub mod Call
pub mod Told
