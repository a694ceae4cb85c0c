pub mod Ops
pub mod Holds
pub mod Made
pub mod Dropped
pub mod Stale
pub mod Used
