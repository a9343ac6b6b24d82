pub mod Names
pub mod Ranges
pub mod Fills
pub mod Seeking
pub mod Ends
pub mod Matching
pub mod Changed
