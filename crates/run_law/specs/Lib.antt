pub mod Whole
pub mod Found
