pub mod Names
pub mod Bench
pub mod Sheet
pub mod Mixed
