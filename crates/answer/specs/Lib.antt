pub mod Does
pub mod Code
