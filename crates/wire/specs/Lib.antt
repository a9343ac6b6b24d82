pub mod Names
pub mod Words
pub mod Signed
pub mod Spliced
