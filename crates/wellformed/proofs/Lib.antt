pub mod Whole
pub mod Bodies
