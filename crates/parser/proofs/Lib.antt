pub mod Listing
pub mod Wholly
