pub mod Each
pub mod Parameters
pub mod Creation
pub mod Memory
pub mod Meets
