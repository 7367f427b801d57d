pub mod Ranking
pub mod Bounded
