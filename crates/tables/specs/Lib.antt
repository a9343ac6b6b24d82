pub mod Names
pub mod Tables
pub mod Kinds
pub mod Words
