pub mod Sets
pub mod Halves
pub mod laws
