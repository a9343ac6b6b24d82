pub mod Names
pub mod Boundary
pub mod Numbers
