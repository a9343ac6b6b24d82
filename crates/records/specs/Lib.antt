pub mod Names
pub mod Mappings
pub mod Checks
pub mod Refusals
pub mod Meanings
pub mod Bitmap
pub mod Noted
