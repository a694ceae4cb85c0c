pub mod Ops
pub mod Unlink
pub mod Page
pub mod Detached
pub mod Reps
pub mod Take
pub mod Late
pub mod Code
