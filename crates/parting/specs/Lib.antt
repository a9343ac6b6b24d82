pub mod Names
pub mod Parting
pub mod Spans
pub mod Statements
