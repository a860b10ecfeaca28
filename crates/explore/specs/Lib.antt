pub mod Meeting
pub mod Marked
pub mod Reaching
pub mod Gathering
pub mod Asking
