pub mod Names
pub mod Calls
pub mod Turns
pub mod Laws
