pub mod Names
pub mod Values
pub mod Range
pub mod Figure
pub mod Rows
