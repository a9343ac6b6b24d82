pub mod Names
pub mod Answers
pub mod Whole
pub mod Parts
pub mod Runs
pub mod Nothing
pub mod Levels
