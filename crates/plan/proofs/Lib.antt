pub mod Walking
pub mod Tallying
