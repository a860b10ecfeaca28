pub mod Repeated
pub mod Tables
pub mod Sums
pub mod Shown
