pub mod WorkColex
pub mod WorkFamily
