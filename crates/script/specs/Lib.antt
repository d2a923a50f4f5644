pub mod Commands
pub mod Numerals
pub mod Pieces
pub mod Rows
pub mod Words
pub mod Writing
