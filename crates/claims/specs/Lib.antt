pub mod Meaning
pub mod Texts
pub mod Claims
pub mod Kinds
