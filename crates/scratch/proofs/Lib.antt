pub mod Stacks
pub mod Rows
pub mod Lent
