pub mod Price
pub mod WorstTiles
