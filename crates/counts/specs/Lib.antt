pub mod Found
pub mod Shift
pub mod Code
pub mod Handles
pub mod Decide
pub mod Objects
pub mod Used
pub mod Halves
