pub mod Kept
pub mod Does
