pub mod Laws
pub mod Xor
pub mod Steps
