pub mod Close
pub mod Renew
pub mod Replace
