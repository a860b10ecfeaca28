pub mod Making
pub mod Taking
pub mod Setting
pub mod Loose
