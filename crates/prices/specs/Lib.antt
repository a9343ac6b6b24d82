pub mod Prices
pub mod Names
