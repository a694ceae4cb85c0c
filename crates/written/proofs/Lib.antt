pub mod Spread
pub mod Entries
pub mod Shows
pub mod Rows
pub mod Tables
pub mod Whole
pub mod Limits
