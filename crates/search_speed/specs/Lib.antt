pub mod Tables
pub mod Patterns
pub mod Tree
pub mod Crowd
pub mod Searches
pub mod Figures
