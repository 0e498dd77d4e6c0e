pub mod Shown
pub mod Assigned
