pub mod Numbers
pub mod At
pub mod Words
