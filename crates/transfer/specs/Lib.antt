pub mod Ops
pub mod Checks
pub mod Preparing
pub mod Code
pub mod Plain
pub mod Seen
pub mod Stored
pub mod Judging
