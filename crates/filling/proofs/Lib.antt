pub mod Listing
pub mod Passing
pub mod Freshly
pub mod Attempts
