pub mod Filling
pub mod Repeated
pub mod Room
pub mod Growing
