pub mod Resolved
pub mod Laid
pub mod Says
