pub mod Names
pub mod Dealing
