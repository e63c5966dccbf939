pub mod Chunks
pub mod Cutting
pub mod Parts
pub mod Questions
pub mod Sameness
pub mod Sets
pub mod Starting
