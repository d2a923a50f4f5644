pub mod Turns
pub mod Figures
