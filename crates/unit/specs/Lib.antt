pub mod Refusals
pub mod Device
pub mod Calls
pub mod Machine
pub mod Acts
pub mod Names
