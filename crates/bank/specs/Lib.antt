pub mod Names
pub mod Slots
pub mod Changes
pub mod Victim
pub mod Spans
pub mod InPlace
