pub mod Closed
pub mod Soundness
