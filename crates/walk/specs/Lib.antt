pub mod Names
pub mod Walk
pub mod Statements
pub mod Uniform
pub mod Repeated
pub mod Descriptors
pub mod Distances
