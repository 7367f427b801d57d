pub mod Price
pub mod Congestions
