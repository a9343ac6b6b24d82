pub mod Names
pub mod Lengths
pub mod Turns
pub mod Parts
pub mod Figures
pub mod Lanes
pub mod Locks
