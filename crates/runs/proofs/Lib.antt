pub mod Decided
pub mod Accepted
pub mod Books
pub mod Sample
