pub mod Names
pub mod Statements
pub mod ListA
