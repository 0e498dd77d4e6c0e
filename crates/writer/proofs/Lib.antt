pub mod Texts
pub mod Records
pub mod Written
pub mod BodyBytes
pub mod Whole
