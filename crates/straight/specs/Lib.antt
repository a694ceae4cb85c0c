pub mod Straight
pub mod FromEnd
