pub mod Sums
pub mod Unique
pub mod Accepts
pub mod Local
