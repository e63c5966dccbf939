pub mod Words
pub mod Turns
pub mod Tallies
pub mod Whole
