pub mod Words
pub mod Buffers
pub mod Windows
pub mod Images
pub mod Fronts
pub mod WindowsLemmas
pub mod Answered
