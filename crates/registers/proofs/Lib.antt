pub mod Names
pub mod Ranges
pub mod Rows
