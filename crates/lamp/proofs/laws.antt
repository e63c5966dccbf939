pub mod Ends
pub mod Records
pub mod Truths
pub mod Turns
