pub mod Language
pub mod Places
pub mod Run
pub mod Made
