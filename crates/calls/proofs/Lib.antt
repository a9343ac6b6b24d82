pub mod Names
pub mod Rest
pub mod Good
