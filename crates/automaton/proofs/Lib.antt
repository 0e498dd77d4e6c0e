pub mod Sets
pub mod Holds
pub mod Correct
pub mod Used
pub mod Made
