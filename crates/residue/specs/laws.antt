pub mod Bits
pub mod Choice
pub mod Lines
pub mod Narrowing
pub mod Questions
pub mod Sound
pub mod Spent
