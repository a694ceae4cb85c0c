pub mod All
pub mod Each
pub mod Pick
pub mod Words
