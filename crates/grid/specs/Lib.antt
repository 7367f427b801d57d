pub mod Making
pub mod Tiles
pub mod Boundaries
