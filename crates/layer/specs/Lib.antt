pub mod Lowered
pub mod Soundness
