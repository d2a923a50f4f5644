pub mod Codes
pub mod Counts
pub mod Rules
pub mod States
