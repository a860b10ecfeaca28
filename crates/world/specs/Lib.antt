pub mod Listed
pub mod Rows
pub mod Worlds
pub mod Building
