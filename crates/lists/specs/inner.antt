pub mod Well
pub mod Columns
pub mod Moved
