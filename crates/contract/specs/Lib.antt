pub mod Ops
pub mod Meets
pub mod Run
pub mod Call
