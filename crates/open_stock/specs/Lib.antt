pub mod Wide
pub mod Stands
pub mod Soundness
