pub mod Ops
pub mod Front
pub mod Short
pub mod Run
pub mod Call
