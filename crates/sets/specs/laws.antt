pub mod Members
pub mod Lone
pub mod Halves
