pub mod OneLine
pub mod Looped
