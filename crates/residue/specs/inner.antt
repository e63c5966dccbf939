pub mod Well
pub mod Readings
pub mod Relations
