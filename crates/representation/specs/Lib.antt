pub mod Represents
pub mod Unique
pub mod Told
