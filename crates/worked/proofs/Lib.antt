pub mod CheapestStrip
pub mod Shown
