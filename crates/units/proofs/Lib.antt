pub mod Texts
pub mod Form
