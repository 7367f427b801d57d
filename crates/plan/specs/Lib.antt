pub mod Walk
pub mod Tally
