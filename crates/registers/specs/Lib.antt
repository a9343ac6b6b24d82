pub mod Names
pub mod Answers
pub mod Fields
pub mod Table
pub mod Offsets
