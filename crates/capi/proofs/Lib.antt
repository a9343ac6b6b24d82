pub mod Names
pub mod Indices
pub mod Fetched
pub mod Counts
pub mod Recorded
pub mod From
