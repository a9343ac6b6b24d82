pub mod Names
pub mod Counting
pub mod Owners
pub mod Agreement
pub mod Laws
