pub mod Batches
pub mod Rows
