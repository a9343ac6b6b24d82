pub mod Names
pub mod Places
pub mod Notes
pub mod Offsets
pub mod Fits
pub mod Regions
