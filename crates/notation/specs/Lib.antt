pub mod Words
pub mod Letters
pub mod Numbers
