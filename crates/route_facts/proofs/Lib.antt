pub mod Crossings
pub mod Kin
