pub mod Remaining
pub mod Choices
pub mod Well
