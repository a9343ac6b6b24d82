pub mod Names
pub mod Posting
pub mod Stays
pub mod Values
pub mod Finite
pub mod Largest
pub mod Smoothing
