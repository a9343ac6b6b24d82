pub mod Names
pub mod Slots
pub mod Attempts
pub mod Writes
pub mod Sessions
pub mod Answered
pub mod Started
