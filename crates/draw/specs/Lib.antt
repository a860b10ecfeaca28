pub mod Source
pub mod Xorshift
pub mod Tapes
pub mod Refusals
pub mod Dealing
