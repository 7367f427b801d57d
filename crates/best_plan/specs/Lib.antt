pub mod Chosen
pub mod Cheapest
