pub mod Events
pub mod Judging
pub mod Lowest
