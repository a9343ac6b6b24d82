pub mod Names
pub mod Refusing
pub mod Attempts
pub mod Planned
pub mod Fitting
pub mod Acting
