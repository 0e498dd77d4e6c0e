pub mod Units
pub mod Form
pub mod Fold
