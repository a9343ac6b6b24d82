pub mod Names
pub mod Reads
pub mod Memory
pub mod Spans
