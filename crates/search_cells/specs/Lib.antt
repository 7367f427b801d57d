pub mod Lists
pub mod Families
pub mod Cells
