pub mod Building
pub mod Demands
pub mod Answering
pub mod Buyer
pub mod Auditing
pub mod Foreign
pub mod Signed
