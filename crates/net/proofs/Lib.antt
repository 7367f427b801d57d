pub mod Firsts
pub mod Faults
pub mod Properly
