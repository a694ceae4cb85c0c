pub mod Claim
pub mod Consumption
pub mod Faults
pub mod Raised
pub mod Entries
pub mod Tried
pub mod Prepared
pub mod Judged
