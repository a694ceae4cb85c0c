pub mod Record
pub mod Words
pub mod Whole
pub mod Reps
