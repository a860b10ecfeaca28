pub mod Listed
pub mod Held
pub mod Steps
pub mod Sources
pub mod Fills
pub mod Takes
pub mod Starts
