pub mod laws
pub mod Zeros
