pub mod Names
pub mod Texts
