pub mod Examples
pub mod Every
