pub mod Lent
pub mod laws
