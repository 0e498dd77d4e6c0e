pub mod Pieces
pub mod Ahead
pub mod Reading
