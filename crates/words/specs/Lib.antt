pub mod Spelling
pub mod Splitting
pub mod Names
pub mod Saying
pub mod Words
pub mod Laws
