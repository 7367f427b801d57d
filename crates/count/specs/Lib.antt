pub mod Price
pub mod Counts
