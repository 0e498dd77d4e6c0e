pub mod Shown
pub mod Writing
pub mod Rewriting
