mod Cutting
mod Fronting
mod Parsing
mod Reading
mod Rowing
mod Splitting
mod Trying
