pub mod Names
pub mod Blocks
pub mod Writing
pub mod Reading
pub mod Statements
