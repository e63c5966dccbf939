pub mod Lawful
pub mod Carried
pub mod Front
pub mod Remaining
