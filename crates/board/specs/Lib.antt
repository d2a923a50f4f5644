pub mod Credits
pub mod Logged
pub mod Shown
pub mod Tables
pub mod Drawn
pub mod Fresh
