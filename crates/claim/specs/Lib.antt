pub mod EndsOps
pub mod Ops
