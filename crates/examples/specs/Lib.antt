pub mod Fusions
pub mod Jobs
pub mod Examples
