pub mod Names
pub mod Indices
pub mod Walks
pub mod Lent
pub mod Words
pub mod Difference
pub mod Laws
pub mod Repeats
