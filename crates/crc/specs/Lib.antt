pub mod Names
pub mod Crc
pub mod Statements
