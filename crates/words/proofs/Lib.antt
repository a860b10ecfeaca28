pub mod Splits
pub mod Separators
pub mod Lookups
pub mod Amounts
pub mod Classes
