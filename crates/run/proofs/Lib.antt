pub mod Names
pub mod Lengths
pub mod Turns
pub mod Planned
pub mod Offsets
pub mod Going
pub mod Sizes
pub mod Room
