pub mod Hands
pub mod Tokens
pub mod Boards
pub mod Uses
