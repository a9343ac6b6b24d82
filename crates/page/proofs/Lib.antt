pub mod Picks
pub mod Lower
pub mod Slot
