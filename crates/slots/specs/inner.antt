pub mod Slots
pub mod Steps
pub mod Words
