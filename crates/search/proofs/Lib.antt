pub mod Nets
pub mod Outcome
pub mod Turns
