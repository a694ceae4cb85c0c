pub mod Walk
pub mod Code
pub mod Whole
