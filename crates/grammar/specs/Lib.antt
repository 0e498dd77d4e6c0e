pub mod Tree
pub mod Readers
pub mod Parse
pub mod Whole
pub mod Grammar
pub mod Exact
pub mod Examples
pub mod Lying
