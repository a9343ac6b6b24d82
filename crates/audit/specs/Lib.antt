pub mod Names
pub mod Groups
pub mod Pages
pub mod Check
pub mod List
pub mod Runs
pub mod Puts
pub mod Statements
