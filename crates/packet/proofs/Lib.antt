pub mod Bytes
pub mod Claims
pub mod FieldAt
pub mod Steps
pub mod Walks
pub mod Standing
pub mod Refusing
pub mod Exactly
