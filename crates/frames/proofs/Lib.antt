pub mod Copies
pub mod Unpacks
