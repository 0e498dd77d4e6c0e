pub mod Carriable
pub mod Format
pub mod Judge
pub mod Held
pub mod Records
pub mod Turns
pub mod Exact
pub mod Examples
