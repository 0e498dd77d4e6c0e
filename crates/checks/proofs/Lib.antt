pub mod First
pub mod Numbering
pub mod Turns
