pub mod Numbers
pub mod Promises
