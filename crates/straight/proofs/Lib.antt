pub mod Same
pub mod FromEnd
