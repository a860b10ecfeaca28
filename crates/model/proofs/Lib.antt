pub mod Sets
pub mod Reading
pub mod Grows
pub mod Reaches
pub mod Items
pub mod Spheres
pub mod Limits
pub mod Examples
