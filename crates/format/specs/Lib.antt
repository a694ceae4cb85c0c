pub mod Fields
pub mod Ops
pub mod Format
pub mod Refusals
pub mod Kinds
pub mod Rules
