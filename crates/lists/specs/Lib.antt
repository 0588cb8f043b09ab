pub mod Rows
pub mod Words
pub mod Zero
pub mod Tables
