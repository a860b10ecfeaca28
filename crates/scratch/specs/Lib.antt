pub mod Held
pub mod Marks
pub mod Lending
pub mod Refusal
