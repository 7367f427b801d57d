pub mod Bills
pub mod Fares
