mod Digits
pub mod Spelt
