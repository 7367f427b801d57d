pub mod Filling
pub mod Under
pub mod Stacked
