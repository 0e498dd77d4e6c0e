pub mod Expecting
pub mod Many
pub mod Choosing
