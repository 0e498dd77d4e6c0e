pub mod Shown
pub mod Parsed
