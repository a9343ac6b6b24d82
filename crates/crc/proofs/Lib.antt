pub mod Names
pub mod Xors
pub mod Steps
pub mod Registers
pub mod Rows
pub mod Catches
pub mod Published
