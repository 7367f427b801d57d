pub mod Meaning
pub mod Faults
pub mod Calls
pub mod Making
pub mod Figures
