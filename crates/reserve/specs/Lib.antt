pub mod Ops
pub mod Tables
pub mod Listed
pub mod Taken
pub mod Batch
pub mod Room
pub mod Reserve
pub mod ReserveCode
