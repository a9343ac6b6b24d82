pub mod Names
pub mod Joins
