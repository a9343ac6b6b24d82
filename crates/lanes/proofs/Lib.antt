pub mod Names
pub mod Loops
pub mod Searches
pub mod Ranges
pub mod Flushes
