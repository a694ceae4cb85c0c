pub mod Known
pub mod Serve
pub mod Steps
