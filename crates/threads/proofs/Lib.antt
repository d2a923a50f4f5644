pub mod Logs
pub mod Tables
