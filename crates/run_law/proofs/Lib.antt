pub mod Rows
pub mod Nets
pub mod Room
pub mod Keeps
pub mod Chains
pub mod Whole
pub mod Found
