pub mod Last
pub mod Taken
