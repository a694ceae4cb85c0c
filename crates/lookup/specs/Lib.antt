pub mod View
pub mod Named
pub mod Read
pub mod Scan
pub mod Walks
pub mod Pages
pub mod Scanned
pub mod Code
