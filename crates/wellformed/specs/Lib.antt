pub mod View
pub mod Shown
pub mod Whole
pub mod Code
