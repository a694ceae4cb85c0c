pub mod Names
pub mod Runs
pub mod Erase
pub mod Theorem
pub mod World
pub mod Plans
