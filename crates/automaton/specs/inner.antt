pub mod Placing
pub mod Lawful
