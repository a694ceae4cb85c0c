pub mod Place
pub mod Fields
pub mod Counted
pub mod Lists
pub mod Answers
pub mod Laws
pub mod Plain
