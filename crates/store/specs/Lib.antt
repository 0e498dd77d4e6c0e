pub mod Bounds
pub mod Calls
pub mod Tables
pub mod Owned
pub mod Overlays
pub mod Rounds
