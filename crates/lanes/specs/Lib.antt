pub mod Names
pub mod Lanes
