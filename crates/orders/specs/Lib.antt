pub mod Walk
pub mod Check
pub mod Vacants
pub mod Decide
pub mod Model
pub mod Code
pub mod Each
