pub mod Bill
pub mod Figures
pub mod Names
