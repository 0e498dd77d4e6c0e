pub mod Fixeds
