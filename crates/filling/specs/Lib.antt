pub mod Passing
pub mod Steps
pub mod Filled
