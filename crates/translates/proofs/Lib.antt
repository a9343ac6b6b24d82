pub mod Names
pub mod Written
pub mod Over
pub mod Faithful
pub mod Repeats
pub mod Memories
pub mod Theorems
pub mod Samples
