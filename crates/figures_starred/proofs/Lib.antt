pub mod Tests
pub mod Bands
pub mod Table
