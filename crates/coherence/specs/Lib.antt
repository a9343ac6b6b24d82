pub mod Names
pub mod Agreement
pub mod Sessions
pub mod Answered
pub mod Started
