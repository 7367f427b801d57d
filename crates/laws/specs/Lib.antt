pub mod Laws
pub mod Ranked
pub mod Amounts
pub mod Fractions
