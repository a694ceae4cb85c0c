pub mod Head
pub mod Apart
