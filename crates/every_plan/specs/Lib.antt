pub mod Shapes
pub mod Nets
pub mod Crowds
pub mod Codes
pub mod Trying
pub mod Comparing
pub mod Tallies
