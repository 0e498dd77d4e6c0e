pub mod Terminals
pub mod Words
pub mod Tables
pub mod Signs
pub mod Places
pub mod Tokens
