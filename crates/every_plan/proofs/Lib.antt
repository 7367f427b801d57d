pub mod Fours
pub mod Reduced
