pub mod Names
pub mod Records
pub mod Forms
pub mod Kinds
