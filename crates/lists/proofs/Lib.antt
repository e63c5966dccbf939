pub mod Turns
pub mod Columns
