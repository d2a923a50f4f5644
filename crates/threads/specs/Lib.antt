pub mod Entries
pub mod Judgement
pub mod Tables
