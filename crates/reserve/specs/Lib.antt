pub mod Reserved
pub mod Soundness
