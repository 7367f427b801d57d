pub mod Same
pub mod Marks
pub mod Legals
pub mod Alone
