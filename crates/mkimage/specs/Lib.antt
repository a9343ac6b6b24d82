pub mod Names
pub mod Output
