pub mod Names
pub mod Charged
pub mod Performed
pub mod Attempts
