pub mod Names
pub mod Replay
pub mod Blocks
pub mod Statements
