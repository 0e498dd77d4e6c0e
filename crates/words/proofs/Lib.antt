pub mod Spelling
pub mod Lexemes
pub mod Following
pub mod Found
pub mod Runs
