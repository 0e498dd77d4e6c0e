pub mod Filling
pub mod Each
pub mod Reading
pub mod Wholly
pub mod Short
pub mod Empty
