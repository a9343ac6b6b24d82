pub mod Names
pub mod State
pub mod Parts
pub mod Read
pub mod Layout
