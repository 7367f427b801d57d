pub mod Costs
pub mod Entries
pub mod Tree
pub mod Layouts
pub mod Joining
pub mod Search
