pub mod Shown
pub mod Many
