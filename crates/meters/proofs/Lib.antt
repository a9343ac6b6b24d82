pub mod Names
pub mod Posting
