pub mod Bounds
pub mod Roots
