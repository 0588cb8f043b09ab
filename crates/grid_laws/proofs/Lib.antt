pub mod Apart
pub mod Count
pub mod Edges
pub mod Sizes
pub mod Room
pub mod Said
pub mod Unread
pub mod Figures
