pub mod Bytes
pub mod Windows
pub mod Lent
