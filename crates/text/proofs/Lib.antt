pub mod Scans
pub mod Turns
