pub mod Earliest
pub mod Faults
pub mod Names
