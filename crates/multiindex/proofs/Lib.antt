pub mod SortLaws
pub mod WordsLaws
pub mod Sign
pub mod Exchange
pub mod Figures
pub mod Tables
pub mod Digits
pub mod Runs
