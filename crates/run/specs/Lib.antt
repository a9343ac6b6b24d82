pub mod Names
pub mod Run
pub mod Planned
pub mod Answers
pub mod MayRun
