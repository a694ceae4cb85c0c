pub mod Ops
pub mod Opened
pub mod Found
pub mod Released
pub mod Publishing
pub mod Plain
pub mod Publish
pub mod Published
