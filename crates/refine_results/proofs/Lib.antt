pub mod Figures
pub mod Tests
pub mod Firsts
pub mod Seats
pub mod Found
pub mod Writing
pub mod Handing
pub mod Determined
