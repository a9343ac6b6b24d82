pub mod Decisions
pub mod Prefetches
pub mod Names
