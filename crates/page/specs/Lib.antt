pub mod Ground
pub mod Pick
pub mod Low
pub mod Words
