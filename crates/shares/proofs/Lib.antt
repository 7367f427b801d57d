pub mod Evenly
pub mod Bound
