pub mod Names
pub mod Placing
pub mod Reading
pub mod Splices
pub mod Pastes
