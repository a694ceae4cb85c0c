pub mod Ops
pub mod Walk
pub mod Life
pub mod Open
pub mod Teardown
