pub mod Nths
mod Laid
mod Refusals
